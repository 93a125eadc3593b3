-- The place where a piece of code runs, and its cost: the arguments that the laws of pieces share.
use Rattle.expression_code.proofs.Prelude.{ℕ, ◌+◌, List, Insn, Register, ValueOrError, Context, Evaluates, Converts, Combines, Builds, ItemsGive, EntriesGive, RunContext}

-- a frame of the stack: the values of names in it, the number of open local calls, and the first of its words that is
-- free
pub record StackFrame : Type 0 where
  pub context : Context
  pub depth : ℕ
  pub base : ℕ

abbrev pub in_frame : Context → ℕ → ℕ → StackFrame
in_frame c depth base = record { context = c; depth = depth; base = base }

-- where a piece runs: in this run context, from this slot on, in this frame
pub record Site : Type 0 where
  pub setting : RunContext
  pub slot : ℕ
  pub frame : StackFrame

abbrev pub site_at : RunContext → ℕ → StackFrame → Site
site_at s p frame = record { setting = s; slot = p; frame = frame }

-- n slots later
abbrev pub past : ℕ → Site → Site
past n site = record site { slot = site.slot + n }

-- with n more words of the frame in use
abbrev pub above : ℕ → Site → Site
above n site = record site { frame = record site.frame { base = site.frame.base + n } }

-- a number of steps and a charge
pub record Budget : Type 0 where
  pub steps : ℕ
  pub charge : ℕ

abbrev pub budget : ℕ → ℕ → Budget
budget n x = record { steps = n; charge = x }

-- ---- the result of a piece at a site, within a budget

abbrev pub EvaluatesAt : Site → List Insn → ValueOrError → Budget → Type 0
EvaluatesAt site piece x t = Evaluates site.setting site.slot piece site.frame.context site.frame.depth site.frame.base x t.steps t.charge

abbrev pub ConvertsAt : Site → List Insn → Register → ValueOrError → ValueOrError → Budget → Type 0
ConvertsAt site piece r x z t = Converts site.setting site.slot piece r site.frame.context site.frame.depth site.frame.base x z t.steps t.charge

abbrev pub CombinesAt : Site → List Insn → Register → Register → ValueOrError → ValueOrError → ValueOrError → Budget → Type 0
CombinesAt site piece r q x y z t = Combines site.setting site.slot piece r q site.frame.context site.frame.depth site.frame.base x y z t.steps t.charge

abbrev pub BuildsAt : Site → List Insn → (ValueOrError → ValueOrError) → Budget → Type 0
BuildsAt site piece f t = Builds site.setting site.slot piece site.frame.context site.frame.depth site.frame.base f t.steps t.charge

abbrev pub ItemsAt : Site → List Insn → List ValueOrError → Budget → Type 0
ItemsAt site piece xs t = ItemsGive site.setting site.slot piece site.frame.context site.frame.depth site.frame.base xs t.steps t.charge

abbrev pub EntriesAt : Site → List Insn → List (ValueOrError × ValueOrError) → Budget → Type 0
EntriesAt site piece es t = EntriesGive site.setting site.slot piece site.frame.context site.frame.depth site.frame.base es t.steps t.charge
