-- What the inner functions do. Nobody needs to believe it: it only carries proofs.
use Rattle.std.specs.Prelude.{Bool, ◌&&◌, if◌then◌else◌, Option, Some}
use Rattle.plan_window.specs.declared.summary.Step.{Step}
use Rattle.job_audit.specs.declared.line.Said.{Said}
use Rattle.job_audit.specs.declared.line.Line.{Line}
use Rattle.job_audit.specs.declared.lines.Lines.{Lines}
use Rattle.job_audit.specs.StepLines.{chain_by}

-- a step has a chain behind those that left this
abbrev pub has_chain_behind : Lines → Step → Option Said → Bool
has_chain_behind lines step found =
    if step.anchor then chain_by step.mode found lines.last_chain
    else chain_by step.mode found lines.chain_before && lines.last_chain

-- its line
abbrev pub line_behind : Lines → Step → Option Said → Line
line_behind lines step found = record {
  frame = step.frame;
  found = found;
  mode = step.mode;
  has_chain = has_chain_behind lines step found;
}

-- what an anchor with this line leaves
abbrev pub behind_anchor : Lines → Line → Lines
behind_anchor lines line = record {
  waiting = Some line;
  last_chain = line.has_chain;
  chain_before = lines.last_chain;
}
