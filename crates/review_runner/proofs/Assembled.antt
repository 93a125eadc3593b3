-- Texts that are assembled to the file of an image.
use Rattle.review_runner.proofs.Prelude.{◌≡◌, ℕ, List, [], Result, Ok, Err, Option, Vec, refl, sym, subst, inl, inr, arith, IsOk, IsUtf8, Global, AssembleReturns, FirstLineSays, lines_of, SourceItem, EachSays, Source, StandFor, AsmError, image_from, First, OneImage, FileRead, Assembled, FileBy, MadeBy, MayRunOut, file_from, no_program, program, program_refusal, Refusal, ProgramText}
use Rattle.assembler.specs.declared.asm_error.AsmError.TheVariants as asm_error
use Rattle.admission.proofs.Results.{ok_same}

-- ---- the image's file

-- the first line of a text has content, and then an allocation failed
text_alone : (held : List ℕ) → IsUtf8 held → FirstLineSays (lines_of held) → MayRunOut ProgramText (Ok held)
text_alone held utf8 says = ((λ e. cc), λ h is. subst (λ (t : List ℕ). IsUtf8 t × FirstLineSays (lines_of t)) (ok_same _ _ _ refl is) (utf8, says))

no_code : IsOk (file_from (image_from First [] [])) → ⊥
unfolding image_from
no_code some = cc

-- code that fits an image has a source whose first line has content
first_of : (labels : List ℕ → Option ℕ) (lines : List (List ℕ)) (items : List SourceItem) (code : List ℕ) → EachSays lines items → StandFor labels 0 items code
    → IsOk (file_from (image_from First code [])) → FirstLineSays lines
first_of labels lines items code each stand some = grind (arith, no_code)

of_source : (held code : List ℕ) → Source held code → IsOk (file_from (image_from First code [])) → FirstLineSays (lines_of held)
of_source held code source some = first_of source.labels _ source.items code source.lines source.code some

-- the file of an image with the code of a text
pub of_code : (held code : List ℕ) (r : Result (Vec ℕ Global) Refusal) → IsUtf8 held → Source held code → FileBy code r → MadeBy OneImage ProgramText (Ok held) r
of_code held code (Ok file) utf8 source is = subst (Assembled (Ok held)) is (program utf8 source)
of_code held code (Err r) utf8 source (inl is) = inl (subst (Assembled (Ok held)) is (program utf8 source))
of_code held code (Err r) utf8 source (inr lacks) = inr (lacks.0, text_alone held utf8 (of_source held code source lacks.1))

-- the refusal of a text
pub of_cause : (held : List ℕ) (e : AsmError) → IsUtf8 held → AssembleReturns held (Err e) → MadeBy OneImage ProgramText (Ok held) (Err (program_refusal e))
of_cause held asm_error.Memory utf8 answer = inr (refl, text_alone held utf8 answer)
of_cause held e utf8 answer = inl (no_program utf8 answer)

-- an allocation may fail once the image's file is made
pub may_run_out : (reading : FileRead) (due : Result (List ℕ) Refusal) (file : List ℕ) → Assembled reading due → due ≡ Ok file → MayRunOut ProgramText reading
may_run_out reading due file (program utf8 source) is = text_alone _ utf8 (of_source _ _ source (subst IsOk (sym is) refl))
may_run_out reading due file made is = cc
