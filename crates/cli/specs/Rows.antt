-- Literal examples: refusals with their lines and statuses, and texts with the numbers they represent.
use Rattle.std.specs.Prelude.{◌≡◌, ℕ, List, None, Some, Ok, Err, [], ◌∷◌, codes}
use Prim.Native.String.{String}
use Rattle.assembler.specs.declared.asm_error.AsmError.TheVariants as asm_error
use Rattle.assembler.specs.declared.asm_error.AsmError.TheVariants.{UnknownLine, NumberOutOfRange, UnknownLabel, DuplicateLabel, JumpTooFar, TooManySlots}
use Rattle.cel_macros.specs.declared.macro_error.MacroError.TheVariants.{WrongArgumentCount, InvalidIterationName, HasWithoutSelection}
use Rattle.cel_tokens.specs.declared.read_error.ReadError.TheVariants.{UnknownCharacter, InvalidTextLiteral, IntOutOfRange, UnexpectedToken, TooManyOpen, TextTooLong}
use Rattle.cel_types.specs.declared.type_error.TypeError.TheVariants.{UnknownIdentifier, NoMatchingOverload, MisusedVariables}
use Rattle.loader.specs.declared.load_error.LoadError.TheVariants as load_error
use Rattle.loader.specs.declared.load_error.LoadError.TheVariants.{TooShort, UnknownMagic, BadSlotCount, ConstantsTooLong, BadLength}
use Rattle.policy_glue.specs.declared.compile_error.CompileError.TheVariants.{InvalidExpression, NotABool, MessageNotAString, TooManyNodes, TooManyTextBytes}
use Rattle.policy_glue.specs.declared.expression_error.ExpressionError.TheVariants as expression
use Rattle.policy_glue.specs.declared.expression_error.ExpressionError.TheVariants.{Unexpanded, Untyped, NeedsTooManyWords, VariableTooDeep}
use Rattle.policy_glue.specs.declared.part_kind.PartKind.TheVariants.{Variable, Condition, Validation, Message}
use Rattle.policy_glue.specs.declared.policy_error.PolicyError.TheVariants.{NotJson, NotAPolicy, InvalidField, NoValidations, TooManyParts, MessageWithLineBreak}
use Rattle.admission.specs.declared.policy_refusal.PolicyRefusal.TheVariants as policy_refusal
use Rattle.admission.specs.declared.policy_refusal.PolicyRefusal.TheVariants.{Unread, Uncompiled}
use Rattle.admission.specs.declared.run_error.RunError.TheVariants as run_error
use Rattle.admission.specs.declared.run_error.RunError.TheVariants.{PolicyRefused, ReviewRefused, NamespaceOrParamsRefused, OutOfSteps, OverLimit, OutOfReads}
use Rattle.streams.specs.declared.session_error.SessionError.TheVariants as session_error
use Rattle.host.specs.declared.file_error.FileError.TheVariants as file_error
use Rattle.host.specs.declared.order_error.OrderError.TheVariants as order_error
use Rattle.cli.specs.Ending.{ending_line, ending_status}
use Rattle.cli.specs.Limits.{default_reads, default_steps, most_reads, step_limit}
use Rattle.cli.specs.Number.{number_of}
use Rattle.cli.specs.Refusals.{file_refusal, load_refusal, order_refusal, policy_refusal_of, program_refusal, refusal_line, refusal_status, run_refusal, session_refusal}
use Rattle.cli.specs.declared.refusal.Refusal.{Refusal}
use Rattle.cli.specs.declared.refusal.Refusal.TheVariants.{Words, Image, File, Text, Program, Policy, Run, Input, Output, Memory}

-- the refusal prints this line, and the program ends with this status
abbrev pub Says : Refusal → String → ℕ → Type 0
Says r line status = ◌≡◌ {A = List ℕ × ℕ} (refusal_line r, refusal_status r) (codes line, status)

-- each refusal of words, files, images, programs, documents and reviews
pub record RefusalLineRowsStand : Type 0 where
  pub words : Says Words "celbpf: U1\n" 2
  pub file : Says File "celbpf: file\n" 3
  pub text : Says Text "celbpf: text\n" 3
  pub memory : Says Memory "celbpf: memory\n" 3
  pub input : Says Input "celbpf: S1\n" 3
  pub output : Says Output "celbpf: S2\n" 3
  pub image_short : Says (Image TooShort) "celbpf: L1\n" 3
  pub image_magic : Says (Image UnknownMagic) "celbpf: L2\n" 3
  pub image_slot_count : Says (Image BadSlotCount) "celbpf: L3\n" 3
  pub image_constants : Says (Image ConstantsTooLong) "celbpf: L4\n" 3
  pub image_length : Says (Image BadLength) "celbpf: L5\n" 3
  pub unknown_line : Says (Program (UnknownLine 3)) "celbpf: A1 line 3\n" 3
  pub number : Says (Program (NumberOutOfRange 1)) "celbpf: A2 line 1\n" 3
  pub unknown_label : Says (Program (UnknownLabel 2)) "celbpf: A3 line 2\n" 3
  pub duplicate_label : Says (Program (DuplicateLabel 4)) "celbpf: A4 line 4\n" 3
  pub far_jump : Says (Program (JumpTooFar 10)) "celbpf: A5 line 10\n" 3
  pub too_many_slots : Says (Program (TooManySlots 65537)) "celbpf: A6 line 65537\n" 3
  pub not_json : Says (Policy (Unread NotJson)) "celbpf: K1\n" 3
  pub not_a_policy : Says (Policy (Unread NotAPolicy)) "celbpf: K2\n" 3
  pub invalid_field : Says (Policy (Unread InvalidField)) "celbpf: K3\n" 3
  pub no_validations : Says (Policy (Unread NoValidations)) "celbpf: K4\n" 3
  pub too_many_parts : Says (Policy (Unread TooManyParts)) "celbpf: K5\n" 3
  pub line_break : Says (Policy (Unread MessageWithLineBreak)) "celbpf: K8\n" 3
  pub no_bool : Says (Policy (Uncompiled NotABool)) "celbpf: K7\n" 3
  pub no_string : Says (Policy (Uncompiled MessageNotAString)) "celbpf: K9\n" 3
  pub nodes : Says (Policy (Uncompiled TooManyNodes)) "celbpf: G3\n" 3
  pub text_bytes : Says (Policy (Uncompiled TooManyTextBytes)) "celbpf: G4\n" 3
  pub review_without_policy : Says (Run (PolicyRefused (Unread InvalidField))) "celbpf: N1 K3\n" 3
  pub review_of_deep_variable :
      Says (Run (PolicyRefused (Uncompiled (InvalidExpression Variable 6 VariableTooDeep)))) "celbpf: N1 K6 variable 6 G2\n" 3
  pub no_review : Says (Run ReviewRefused) "celbpf: N2\n" 3
  pub no_params : Says (Run NamespaceOrParamsRefused) "celbpf: N3\n" 3
  pub no_end : Says (Run OutOfSteps) "celbpf: N4\n" 4
  pub over_limit : Says (Run OverLimit) "celbpf: N5\n" 4
  pub out_of_reads : Says (Run OutOfReads) "celbpf: N7\n" 4

-- each refusal of an expression: the kind and the place of its part, its code, and for a text the byte
pub record ExpressionRowsStand : Type 0 where
  pub token :
      Says (Policy (Uncompiled (InvalidExpression Validation 0 (expression.Unread
      (UnexpectedToken 13))))) "celbpf: K6 validation 0 P4 at 13\n" 3
  pub character :
      Says (Policy (Uncompiled (InvalidExpression Condition 2 (expression.Unread
      (UnknownCharacter 0))))) "celbpf: K6 condition 2 P1 at 0\n" 3
  pub text_literal :
      Says (Policy (Uncompiled (InvalidExpression Message 0 (expression.Unread (InvalidTextLiteral 0))))) "celbpf: K6 message 0 P2 at 0\n" 3
  pub int : Says (Policy (Uncompiled (InvalidExpression Validation 63 (expression.Unread
      (IntOutOfRange 5))))) "celbpf: K6 validation 63 P3 at 5\n" 3
  pub open_brackets :
      Says (Policy (Uncompiled (InvalidExpression Validation 0 (expression.Unread
      (TooManyOpen 100))))) "celbpf: K6 validation 0 P5 at 100\n" 3
  pub long_text :
      Says (Policy (Uncompiled (InvalidExpression Validation 0 (expression.Unread
      (TextTooLong 65536))))) "celbpf: K6 validation 0 P6 at 65536\n" 3
  pub argument_count :
      Says (Policy (Uncompiled (InvalidExpression Validation 0 (Unexpanded WrongArgumentCount)))) "celbpf: K6 validation 0 M1\n" 3
  pub iteration_name :
      Says (Policy (Uncompiled (InvalidExpression Validation 0 (Unexpanded InvalidIterationName)))) "celbpf: K6 validation 0 M2\n" 3
  pub no_selection :
      Says (Policy (Uncompiled (InvalidExpression Validation 0 (Unexpanded HasWithoutSelection)))) "celbpf: K6 validation 0 M3\n" 3
  pub unknown_name :
      Says (Policy (Uncompiled (InvalidExpression Validation 0 (Untyped UnknownIdentifier)))) "celbpf: K6 validation 0 Y1\n" 3
  pub no_overload :
      Says (Policy (Uncompiled (InvalidExpression Validation 0 (Untyped NoMatchingOverload)))) "celbpf: K6 validation 0 Y2\n" 3
  pub variables_in_condition :
      Says (Policy (Uncompiled (InvalidExpression Condition 0 (Untyped MisusedVariables)))) "celbpf: K6 condition 0 Y3\n" 3
  pub stack_words : Says (Policy (Uncompiled (InvalidExpression Validation 0 NeedsTooManyWords))) "celbpf: K6 validation 0 G1\n" 3
  pub deep_variable : Says (Policy (Uncompiled (InvalidExpression Variable 6 VariableTooDeep))) "celbpf: K6 variable 6 G2\n" 3

-- the program's refusal for the errors of each part; out of memory stays `Memory`
pub record CauseRowsStand : Type 0 where
  pub no_order : order_refusal order_error.InvalidArguments ≡ Words
  pub order_memory : order_refusal order_error.Memory ≡ Memory
  pub no_file : file_refusal file_error.Failed ≡ File
  pub file_memory : file_refusal file_error.Memory ≡ Memory
  pub no_input : session_refusal session_error.ReadFailed ≡ Input
  pub no_output : session_refusal session_error.WriteFailed ≡ Output
  pub session_memory : session_refusal session_error.Memory ≡ Memory
  pub no_image : load_refusal TooShort ≡ Image TooShort
  pub image_memory : load_refusal load_error.Memory ≡ Memory
  pub no_program : program_refusal (UnknownLine 3) ≡ Program (UnknownLine 3)
  pub program_memory : program_refusal asm_error.Memory ≡ Memory
  pub no_policy : policy_refusal_of (Unread NotJson) ≡ Policy (Unread NotJson)
  pub policy_memory : policy_refusal_of policy_refusal.Memory ≡ Memory
  pub no_review : run_refusal ReviewRefused ≡ Run ReviewRefused
  pub review_memory : run_refusal run_error.Memory ≡ Memory
  pub done : ending_status (Ok 1) ≡ 1
  pub done_line : ending_line (Ok 1) ≡ []
  pub refused : ending_status (Err Words) ≡ 2
  pub refused_line : ending_line (Err Words) ≡ codes "celbpf: U1\n"

-- the text represents this number
abbrev pub Stands : String → ℕ → Type 0
Stands text n = number_of (Some (codes text)) ≡ Some n

-- the text represents no number
abbrev pub StandsForNone : String → Type 0
StandsForNone text = number_of (Some (codes text)) ≡ None

-- numbers as Rust parses a `u64`: decimal digits, optionally after one plus sign, and at most 2^64 - 1
pub record NumberRowsStand : Type 0 where
  pub none : Stands "0" 0
  pub one_digit : Stands "9" 9
  pub two_digits : Stands "10" 10
  pub order_of_digits : Stands "1234" 1234
  pub zeros_in_front : Stands "007" 7
  pub with_plus : Stands "+5" 5
  pub most : Stands "18446744073709551615" 0xffffffffffffffff
  pub past_most : StandsForNone "18446744073709551616"
  pub empty : StandsForNone ""
  pub plus_alone : StandsForNone "+"
  pub two_signs : StandsForNone "++5"
  pub minus : StandsForNone "-1"
  pub blank_in_front : StandsForNone " 5"
  pub blank_behind : StandsForNone "5 "
  pub slash : StandsForNone "/"
  pub colon : StandsForNone ":"
  pub letter_behind : StandsForNone "5a"
  pub letter : StandsForNone "a"
  pub hexadecimal : StandsForNone "0x5"
  pub underscore : StandsForNone "1_000"
  pub left_out : number_of None ≡ None
  pub steps_left_out : default_steps ≡ 10000000
  pub most_steps : step_limit ≡ 1000000000
  pub reads_left_out : default_reads ≡ 16777216
  pub most_read : most_reads ≡ 4611686018427387904
