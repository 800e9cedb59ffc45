use Rattle.y4m_frames.proofs.write.write_header.Goals as goal

pub returns : goal.returns
returns g c =
    rw (
      c.as_bytes.ensures.value,
      c.as_bytes-2.ensures.value,
      c.format.ensures.text,
      c.as_bytes-3.ensures.value,
      c.as_bytes-4.ensures.value,
      c.format-2.ensures.text,
      c.as_bytes-5.ensures.value,
      c.as_bytes-6.ensures.value,
      c.format-3.ensures.text,
      c.as_bytes-7.ensures.value,
      c.as_bytes-8.ensures.value,
      c.format-4.ensures.text,
      c.as_bytes-9.ensures.value,
      c.as_bytes-10.ensures.value,
      c.scan.ensures,
      c.as_bytes-11.ensures.value,
    )
    at c.send_all.ensures
