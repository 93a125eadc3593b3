-- Proof obligations of `write_rows_stand` (src/rows.rt).
use Rattle.std.proofs.Common.{◌≡◌, [], ◌∷◌, Some, Ok, Option, ap, refl, subst, sym}
use Rattle.host.specs.FileSystem.{FileSystem, AnswersWrite, IsSame}
use Rattle.host.specs.Rows.{files, second, written}
use Rattle.host.proofs.rows.write_rows_stand.Goals as goal

some_same : (f g : FileSystem) → ◌≡◌ {A = Option FileSystem} (Some f) (Some g) → f ≡ g
some_same f g is = cc

write_held : AnswersWrite files written second (9 ∷ []) (Ok tt)
write_held = record { taken = refl; takes = refl; unread = refl; holds = λ other. refl }

not_lost : AnswersWrite files files second (9 ∷ []) (Ok tt) → ⊥
not_lost w = let is = w.holds second in cc

not_same : IsSame files written → ⊥
not_same s = let is = s.holds second in cc

same_files : IsSame files files
same_files = record { holds = λ name. refl; takes = refl; unread = refl }

pub returns : goal.returns
returns c = record {
  write = write_held;
  write_is_lost = not_lost;
  write_to_another = λ w. let is = w.taken in cc;
  write_of_others = λ w. let is = w.holds second in cc;
  write_fails = record { taken = refl; takes = refl; unread = refl; holds = λ other. refl };
  write_fails_and_changes = λ w. let is = w.holds second in cc;
  write_fails_where_it_is_taken = λ w. let is = w.taken in cc;
  write_without_memory = refl;
  write_without_memory_changes = λ same. let is = ap (λ (f : FileSystem). f.holds second) same in cc;
  known_write = λ f is. let same : files ≡ f = cc in
      (written, refl, subst (λ (g : FileSystem). AnswersWrite g written second (9 ∷ []) (Ok tt)) same write_held);
  known_write_is_lost = λ w. let it = w files refl in
      not_lost (subst (λ (g : FileSystem). AnswersWrite files g second (9 ∷ []) (Ok tt)) (sym (some_same files it.0 it.1)) it.2);
  known_write_forgets = λ w. let it = w files refl in let is = it.1 in cc;
  unknown_write = λ f is. cc;
  same = same_files;
  other_bytes = not_same;
  kept = λ f is. let same : files ≡ f = cc in (files, refl, subst (λ (g : FileSystem). IsSame g files) same same_files);
  kept_otherwise = λ k. let it = k files refl in not_same (subst (λ (g : FileSystem). IsSame files g) (sym (some_same written it.0 it.1)) it.2);
  forgotten = λ k. let it = k files refl in let is = it.1 in cc;
  never_known = λ f is. cc;
}
