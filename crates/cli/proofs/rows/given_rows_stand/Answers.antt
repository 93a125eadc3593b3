-- Proofs of `rows::given_rows_stand`: the result meets the contract.

use Rattle.std.proofs.Common.{◌≡◌, ℕ, List, [], ◌∷◌, Some, None, Ok, Err, length, refl, subst, sym, ap, ◌∙◌}
use Rattle.std.specs.Prelude.{codes}
use Rattle.clap.specs.Words.{Text}
use Rattle.host.specs.FileSystem.{FileSystem, ReadsFile}
use Rattle.host.specs.Rows.{files, first, third}
use Rattle.host.specs.declared.file_error.FileError.TheVariants.{Failed}
use Rattle.host.specs.declared.order_error.OrderError.{OrderError}
use Rattle.host.specs.declared.order_error.OrderError.TheVariants as order_error
use Rattle.cli.specs.Ending.{Asks, AsksNothing, no_words, not_taken, no_memory}
use Rattle.cli.specs.EndingRows.{faultless, two_words}
use Rattle.cli.specs.declared.refusal.Refusal.TheVariants.{Words, Memory}
use Rattle.cli.proofs.rows.given_rows_stand.Goals as goal

not_another : Asks faultless length (Ok two_words) 3 → ⊥
not_another a = let same : two_words ≡ a.words = cc in let is : 2 ≡ 3 = ap length same ∙ a.asked in cc

not_refused : AsksNothing faultless (Ok two_words) Words → ⊥
not_refused (not_taken faults) = faults refl

not_words : AsksNothing faultless (Err order_error.Memory) Words → ⊥
not_words a = elim a [ ]

not_memory : AsksNothing faultless (Err order_error.InvalidArguments) Memory → ⊥
not_memory a = elim a [ ]

pub returns-clause-files : goal.returns-clause-files
returns-clause-files c = record {
  read = λ f is. let same : files ≡ f = cc in subst (λ (g : FileSystem). ReadsFile (g.holds first) (Ok (7 ∷ 8 ∷ []))) same refl;
  read_otherwise = λ reads. let is = reads files refl in cc;
  unread = λ f is. let same : files ≡ f = cc in subst (λ (g : FileSystem). ReadsFile (g.holds third) (Err Failed)) same refl;
  unread_though_held = λ reads. let is = reads files refl in cc;
  passed_over = λ no. no;
  left_out = refl;
  read_though_left_out = λ is. cc;
  failed_though_left_out = λ is. cc;
}

pub returns-clause-words : goal.returns-clause-words
returns-clause-words c = record {
  asked = record { words = two_words; are_given = refl; are_taken = refl; asked = refl };
  asked_for_another = not_another;
  asked_without_words = λ a. let is = a.are_given in cc;
  refused_without_fault = not_refused;
  no_memory_for_words = no_memory;
  no_words = no_words;
  no_memory = no_words;
  words_for_memory = not_words;
  memory_for_words = not_memory;
}
