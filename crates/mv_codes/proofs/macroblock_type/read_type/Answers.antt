use Rattle.mv_terms.specs.declared.head.PicType.TheVariants.{I, P, B}
use Rattle.mv_codes.specs.Types.{type_i_codes, type_p_codes, type_b_codes}
use Rattle.mv_codes.proofs.TableLaws.{reads_whatever}
use Rattle.mv_codes.proofs.TableFacts.{types_apart}
use Rattle.mv_codes.proofs.LookUpFacts.{types_i_found, types_p_found, types_b_found}
use Rattle.mv_codes.proofs.macroblock_type.read_type.Goals as goal

pub returns-in-I-clause-reads : goal.returns-in-I-clause-reads
unfolding type_i_codes
returns-in-I-clause-reads c = rw c.in-I.is c.read.ensures

pub returns-in-I-clause-whatever : goal.returns-in-I-clause-whatever
unfolding type_i_codes
returns-in-I-clause-whatever c = rw c.in-I.is (reads_whatever type_i_codes (types_apart I) c.args.w.now c.read.new.w c.read.result c.read.ensures)

pub returns-in-P-clause-reads : goal.returns-in-P-clause-reads
unfolding type_p_codes
returns-in-P-clause-reads c = rw c.in-P.is c.read-in-P.ensures

pub returns-in-P-clause-whatever : goal.returns-in-P-clause-whatever
unfolding type_p_codes
returns-in-P-clause-whatever c = rw c.in-P.is (reads_whatever type_p_codes (types_apart P) c.args.w.now c.read-in-P.new.w c.read-in-P.result c.read-in-P.ensures)

pub returns-in-B-clause-reads : goal.returns-in-B-clause-reads
unfolding type_b_codes
returns-in-B-clause-reads c = rw c.in-B.is c.read-in-B.ensures

pub returns-in-B-clause-whatever : goal.returns-in-B-clause-whatever
unfolding type_b_codes
returns-in-B-clause-whatever c = rw c.in-B.is (reads_whatever type_b_codes (types_apart B) c.args.w.now c.read-in-B.new.w c.read-in-B.result c.read-in-B.ensures)

pub read-requires-clause-look_up : goal.read-requires-clause-look_up
unfolding type_i_codes
read-requires-clause-look_up c = types_i_found

pub read-requires-in-P-clause-look_up : goal.read-requires-in-P-clause-look_up
unfolding type_p_codes
read-requires-in-P-clause-look_up c = types_p_found

pub read-requires-in-B-clause-look_up : goal.read-requires-in-B-clause-look_up
unfolding type_b_codes
read-requires-in-B-clause-look_up c = types_b_found
