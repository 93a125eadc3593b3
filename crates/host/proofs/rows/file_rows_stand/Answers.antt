-- Proof obligations of `file_rows_stand` (src/rows.rt).
use Rattle.std.proofs.Common.{◌≡◌, [], ◌∷◌, None, Ok, refl, subst}
use Rattle.host.specs.FileSystem.{FileSystem, ReadsFile}
use Rattle.host.specs.Rows.{files, first, third}
use Rattle.host.specs.declared.file_failure.FileFailure.TheVariants.{IsADirectory}
use Rattle.host.proofs.rows.file_rows_stand.Goals as goal

pub returns : goal.returns
returns c = record {
  read = refl;
  read_empty = refl;
  read_none = refl;
  read_without_memory = tt;
  read_other = λ is. cc;
  read_what_is_not = λ is. cc;
  read_fails_on_a_file = λ is. cc;
  known_read = λ f is. let same : files ≡ f = cc in subst (λ (g : FileSystem). ReadsFile (g.holds first) (Ok (7 ∷ 8 ∷ []))) same refl;
  known_read_of_another = λ reads. let is = reads files refl in cc;
  unknown_read = λ f is. cc;
  unread = λ f is. let same : files ≡ f = cc in subst (λ (g : FileSystem). (g.holds third ≡ None) × (IsADirectory ≡ g.unread third)) same (refl, refl);
  unread_for_another_reason = λ fails. let is = (fails files refl).1 in cc;
  unread_though_held = λ fails. let is = (fails files refl).0 in cc;
  unread_without_memory = tt;
  unread_of_unknown = λ f is. cc;
  new_bytes = refl;
  old_bytes = refl;
  still_none = refl;
  failed = refl;
  memory = refl;
  words = refl;
  words_memory = refl;
  no_file = refl;
  no_permission = refl;
  directory = refl;
  no_directory = refl;
  uncategorized = refl;
  no_file_text = refl;
  no_permission_text = refl;
  directory_text = refl;
  other_text = refl;
}
