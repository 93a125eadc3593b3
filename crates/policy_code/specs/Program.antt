-- The code of a policy. The code of each expression leaves the reference of its value in R0. Results are kept in the
-- words of the verdict region, because code for expressions does not change them.
use Rattle.std.specs.Prelude.{ℕ, ◌+◌, ◌*◌, pos, List, [], ◌∷◌, ◌++◌, Option, Some, None}
use Rattle.insn_codec.specs.declared.alu_op.AluOp.TheVariants.{Add}
use Rattle.insn_codec.specs.declared.comparison.Comparison.TheVariants.{Eq, Ne}
use Rattle.insn_codec.specs.declared.insn.Insn.{Insn}
use Rattle.insn_codec.specs.declared.insn.Insn.TheVariants.{Alu, Call, Exit, Load, Store, StoreImm}
use Rattle.insn_codec.specs.declared.operand.Operand.TheVariants.{Imm}
use Rattle.insn_codec.specs.declared.register.Register.TheVariants.{R0, R1, R2, R6}
use Rattle.insn_codec.specs.declared.size.Size.TheVariants.{Dw}
use Rattle.insn_codec.specs.declared.width.Width.TheVariants.{W64}
use Rattle.expression_code.specs.Instructions.{mov_reg, lddw, mov_imm, ja, jump_if_imm}
use Rattle.expression_code.specs.Pieces.{size}
use Rattle.expression_code.specs.Words.{verdict_address}
use Rattle.tree_code.specs.Code.Whole.{passed}
use Rattle.verdicts.specs.Layout.{first_message, outcome_word, truth_word}
use Rattle.verdicts.specs.Verdict.{Fails, Errs, undecided}
use Rattle.verdicts.specs.declared.outcome.Outcome.{TheVariants.Skipped, TheVariants.Denied, TheVariants.Admitted}
use Rattle.verdicts.specs.declared.failure_policy.FailurePolicy.{FailurePolicy, TheVariants.Fail, TheVariants.Ignore}

-- after a condition: true continues, false ends the program with the policy skipped, and an error stores the outcome
-- that applies if no condition is false
unfoldable pub condition_tail : FailurePolicy → List Insn
condition_tail f =
    jump_if_imm Eq R0 (pos 3) 8
    ∷ mov_imm R2 (pos (outcome_word (undecided f)))
    ∷ lddw R1 (verdict_address 0)
    ∷ jump_if_imm Ne R0 (pos 2) 3
    ∷ mov_imm R0 (pos (outcome_word Skipped))
    ∷ Store Dw R1 (pos 0) R0
    ∷ Exit
    ∷ Store Dw R1 (pos 0) R2
    ∷ []

-- after all conditions: if an outcome is stored, the program ends
abbrev pub decided_tail : List Insn
decided_tail =
    lddw R1 (verdict_address 0)
    ∷ Load Dw R0 R1 (pos 0)
    ∷ jump_if_imm Eq R0 (pos 0) 1
    ∷ Exit
    ∷ []

-- without conditions there is nothing to test
abbrev pub decided_code : {A : Type 0} → List A → List Insn
decided_code [] = []
decided_code (condition ∷ more) = decided_tail

-- skips this number of slots if a validation is true: its word is already 0
abbrev pub if_true : ℕ → Insn
if_true n = jump_if_imm Eq R0 (pos 3) n

-- the jump for an error: to the count of denials, or past it and the message if the error does not deny
abbrev pub error_way : FailurePolicy → ℕ → ℕ
error_way Fail n = 1
error_way Ignore n = n

abbrev pub leave_error : FailurePolicy → ℕ → Insn
leave_error f n = ja (error_way f n)

-- the distance in bytes from the word of the denials to the word of validation i
abbrev pub result_offset : ℕ → ℕ
result_offset i = 8 * (i + 1)

-- after validation i, if it is not true: stores its word and counts a denial; its message takes n slots
unfoldable pub denial_code : FailurePolicy → ℕ → ℕ → List Insn
denial_code f i n =
    lddw R1 (verdict_address 1)
    ∷ jump_if_imm Eq R0 (pos 2) 2
    ∷ StoreImm Dw R1 (pos (result_offset i)) (pos (truth_word Errs))
    ∷ leave_error f (n + 4)
    ∷ StoreImm Dw R1 (pos (result_offset i)) (pos (truth_word Fails))
    ∷ Load Dw R2 R1 (pos 0)
    ∷ Alu Add W64 R2 (Imm (pos 1))
    ∷ Store Dw R1 (pos 0) R2
    ∷ []

-- the kind of a text, as helper 1 returns it
abbrev pub text_kind : ℕ
text_kind = 4

-- after the message expression of validation i: stores the reference of a text in its word
unfoldable pub message_tail : ℕ → List Insn
message_tail i =
    mov_reg R6 R0
    ∷ mov_reg R1 R0
    ∷ Call (pos 1)
    ∷ jump_if_imm Ne R0 (pos text_kind) 3
    ∷ lddw R1 (verdict_address (first_message + i))
    ∷ Store Dw R1 (pos 0) R6
    ∷ []

-- the code for the message of validation i, if it has a message expression
abbrev pub message_code : ℕ → Option (List Insn) → List Insn
message_code i (Some message) = message ++ message_tail i
message_code i None = []

-- the code after the expression of validation i
abbrev pub result_code : FailurePolicy → ℕ → List Insn → List Insn
result_code f i message = if_true (size message + 9) ∷ (denial_code f i (size message) ++ message)

-- the code of a validation, and of its message expression if it has one
abbrev pub ValidationCode : Type 0
ValidationCode = List Insn × Option (List Insn)

abbrev pub validation_code : FailurePolicy → ℕ → ValidationCode → List Insn
validation_code f i v = v.0 ++ result_code f i (message_code i v.1)

-- the outcome of a policy that ran, left in R0 for the exit that follows
unfoldable pub outcome_tail : List Insn
outcome_tail =
    lddw R1 (verdict_address 0)
    ∷ Load Dw R2 R1 (pos 8)
    ∷ mov_imm R0 (pos (outcome_word Admitted))
    ∷ jump_if_imm Eq R2 (pos 0) 1
    ∷ mov_imm R0 (pos (outcome_word Denied))
    ∷ Store Dw R1 (pos 0) R0
    ∷ []

-- the code of all conditions, in order
unfoldable pub conditions_code : FailurePolicy → List (List Insn) → List Insn
conditions_code f [] = []
conditions_code f (condition ∷ more) = condition ++ (condition_tail f ++ conditions_code f more)

-- the code of the validations from number i on, in order
unfoldable pub validations_code : FailurePolicy → ℕ → List ValidationCode → List Insn
validations_code f i [] = []
validations_code f i (v ∷ more) = validation_code f i v ++ validations_code f (i + 1) more

-- the routines of the variables in order, each after a jump over it
abbrev pub routines_code : List (List Insn) → List Insn
routines_code [] = []
routines_code (routine ∷ more) = passed routine ++ routines_code more

-- the whole program without its exit
unfoldable pub policy_code : FailurePolicy → List (List Insn) → List (List Insn) → List ValidationCode → List Insn
policy_code f routines conditions validations =
    routines_code routines
    ++ (conditions_code f conditions ++ (decided_code conditions ++ (validations_code f 0 validations ++ outcome_tail)))
