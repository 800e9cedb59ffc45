-- With what a status says that a call ended.
use Rattle.mv_ends.specs.Ends.{Ending, defined, no_memory, open_fault, read_fault, write_fault}
use Rattle.mv_terms.specs.declared.status.Status.{Status}
use Rattle.mv_terms.specs.declared.status.Status.TheVariants as status

-- Want of memory and the faults of endpoints may stand in place of the status that an input defines.
abbrev pub ending_of : Status → Ending Status
ending_of status.NoMemory = no_memory
ending_of status.OpenFault = open_fault
ending_of status.ReadFault = read_fault
ending_of status.WriteFault = write_fault
ending_of other = defined other
