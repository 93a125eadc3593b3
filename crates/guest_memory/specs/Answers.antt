-- Results of accesses outside the stack.
use Rattle.std.specs.Prelude.{ℕ, Option, Some, None, Result, Ok, Err}
use Rattle.guest_memory.specs.declared.answer.Answer.{Answer, TheVariants.Made, TheVariants.Outside, TheVariants.Constant, TheVariants.NoMemory}
use Rattle.guest_memory.specs.declared.fault.Fault as fault
use Rattle.guest_memory.specs.declared.fault.Fault.TheVariants.{F3, F4}
use Rattle.guest_memory.specs.declared.write_error.WriteError.{WriteError}
use Rattle.guest_memory.specs.declared.write_error.WriteError.TheVariants as refused

-- the result of a load: the word, or F3 if its bytes are not all in one region
abbrev pub word_or_outside : Option ℕ → Result ℕ fault.Fault
word_or_outside (Some w) = Ok w
word_or_outside None = Err F3

-- the result of a store
abbrev pub answer_of : Answer → Result (Unit {0}) WriteError
answer_of Made = Ok tt
answer_of Outside = Err (refused.Fault F3)
answer_of Constant = Err (refused.Fault F4)
answer_of NoMemory = Err refused.Memory
