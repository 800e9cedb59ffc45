use Rattle.std.proofs.Common.{[], refl, arith}
use Rattle.plan_numbers.proofs.numbers.ContextNumbers.start.Goals as goal

pub returns : goal.returns
returns c =
    let many = c.rooms.invariant.0 in
    let all = c.rooms-test.false in
    let end = c.rooms.auto._i-end in
    record {
      few = omega arith;
      counts = [];
      numbers_are = refl;
      kept = record {
        rooms = record { contexts = omega (arith, many, all, end); numbers = refl; rooms = c.rooms.invariant.1 };
        count = refl;
        context = λ i l w. absurd (omega (arith, l));
        number = λ i l w. absurd (omega (arith, l));
      };
      counted = record {
        many = refl;
        small = λ i l. absurd (omega (arith, l));
        near = λ i j lt le l. absurd (omega (arith, l));
      };
    }
