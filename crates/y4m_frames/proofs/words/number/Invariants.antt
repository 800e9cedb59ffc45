use Rattle.std.proofs.Common.{◌≡◌, ◌<◌, ◌^◌, take, true}
use Rattle.std.specs.List.{list_all}
use Rattle.std.specs.Str.Parse.{digits_value}
use Rattle.y4m_frames.specs.Lines.{is_digit}
use Rattle.y4m_frames.proofs.words.number.Given as goal

abbrev pub invariant-loop-digit : goal.invariant-loop-digit
invariant-loop-digit l = record {
  value : l.value ≡ digits_value 10 (take l.digit-index l.digits);
  all : list_all is_digit (take l.digit-index l.digits) ≡ true;
  small : l.value < 10 ^ l.digit-index;
}
