-- Literal command lines.
use Rattle.std.specs.Prelude.{◌≡◌, ℕ, List, [], ◌∷◌, ◌++◌, Option, Some, None, codes, option_map}
use Rattle.clap.specs.Words.{Text}
use Rattle.review_runner.specs.Commands.{faults, entered}
use Rattle.review_runner.specs.Effect.{command_of, files_read, steps_of}
use Rattle.review_runner.specs.Order.{DocumentFiles, ReviewFiles, Order, order_in}

-- the words are accepted, and give this order
abbrev pub IsTakenAs : List Text → Order → Type 0
IsTakenAs words wanted = (faults words ≡ []) × (order_in (entered words) ≡ Some wanted)

-- the command that the words call, the files that it reads in order, and its limit of steps
abbrev pub IsRead : List Text → Text → List (Option Text) → ℕ → Type 0
IsRead words command files steps =
    option_map {U = Text × List (Option Text) × ℕ} (λ p. (command_of p.0, files_read (command_of p.0) p.1, steps_of p.1)) (entered words)
    ≡ Some (command, files, steps)

-- clap refuses the words
abbrev pub AreWordsRefused : List Text → Type 0
AreWordsRefused words = faults words ≡ [] → ⊥

-- celbpf run-image a.img
abbrev pub without_steps : List Text
without_steps = codes "celbpf" ∷ codes "run-image" ∷ codes "a.img" ∷ []

-- celbpf debug a.img
abbrev pub debug_words : List Text
debug_words = codes "celbpf" ∷ codes "debug" ∷ codes "a.img" ∷ []

-- celbpf debug a.img --review r.json --namespace n.json --params p.json
abbrev pub debug_all_words : List Text
debug_all_words =
    debug_words ++ codes "--review" ∷ codes "r.json" ∷ codes "--namespace" ∷ codes "n.json" ∷ codes "--params" ∷ codes "p.json" ∷ []

abbrev pub no_documents : DocumentFiles
no_documents = record { review = None; namespace = None; params = None }

abbrev pub all_documents : DocumentFiles
all_documents = record { review = Some (codes "r.json"); namespace = Some (codes "n.json"); params = Some (codes "p.json") }

-- celbpf asm a.txt a.img
abbrev pub asm_words : List Text
asm_words = codes "celbpf" ∷ codes "asm" ∷ codes "a.txt" ∷ codes "a.img" ∷ []

-- celbpf list a.img
abbrev pub list_words : List Text
list_words = codes "celbpf" ∷ codes "list" ∷ codes "a.img" ∷ []

-- celbpf run-image a.img --steps N
abbrev pub with_steps : Text → List Text
with_steps number = without_steps ++ codes "--steps" ∷ number ∷ []

-- celbpf compile p.json a.img
abbrev pub compile_words : List Text
compile_words = codes "celbpf" ∷ codes "compile" ∷ codes "p.json" ∷ codes "a.img" ∷ []

-- celbpf review --policy p.json
abbrev pub without_review : List Text
without_review = codes "celbpf" ∷ codes "review" ∷ codes "--policy" ∷ codes "p.json" ∷ []

-- celbpf review --policy p.json --review r.json
abbrev pub review_words : List Text
review_words = without_review ++ codes "--review" ∷ codes "r.json" ∷ []

-- celbpf review --policy p.json --review r.json --namespace n.json --params q.json --steps 896
abbrev pub review_all_words : List Text
review_all_words =
    review_words ++ codes "--namespace" ∷ codes "n.json" ∷ codes "--params" ∷ codes "q.json" ∷ codes "--steps" ∷ codes "896" ∷ []

abbrev pub two_files : ReviewFiles
two_files = record { policy = codes "p.json"; review = codes "r.json"; namespace = None; params = None }

abbrev pub four_files : ReviewFiles
four_files = record { policy = codes "p.json"; review = codes "r.json"; namespace = Some (codes "n.json"); params = Some (codes "q.json") }
