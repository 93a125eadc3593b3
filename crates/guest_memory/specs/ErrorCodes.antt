-- Codes of the faults.
use Rattle.std.specs.Prelude.{ℕ, List, codes}
use Rattle.guest_memory.specs.declared.fault.Fault.{Fault}
use Rattle.guest_memory.specs.declared.fault.Fault.TheVariants.{F1, F2, F3, F4, F5, F6, F7, F8, F9}

-- the code of a fault
abbrev pub fault_code : Fault → List ℕ
fault_code F1 = codes "F1"
fault_code F2 = codes "F2"
fault_code F3 = codes "F3"
fault_code F4 = codes "F4"
fault_code F5 = codes "F5"
fault_code F6 = codes "F6"
fault_code F7 = codes "F7"
fault_code F8 = codes "F8"
fault_code F9 = codes "F9"
