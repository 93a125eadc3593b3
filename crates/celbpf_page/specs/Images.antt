-- The output of the calls on images, and listings.
use Rattle.std.specs.Prelude.{◌≡◌, ℕ, List, Result, Ok, Err, IsOk, Vec}
use Rattle.std.specs.declared.alloc.Global.{Global}
use Rattle.insn_codec.specs.Statements.{Listing}
use Rattle.loader.specs.Contents.{Image as Contents}
use Rattle.loader.specs.Format.{image_in}
use Rattle.cli.specs.Refusals.{refusal_line}
use Rattle.cli.specs.declared.refusal.Refusal.{Refusal, TheVariants.Image, TheVariants.Run, TheVariants.Memory}
use Rattle.celbpf_calls.specs.Statuses.{run_status}
use Rattle.celbpf_calls.specs.Output.{Writes, WritesDone}

-- ---- output

-- the status of a refusal: 13 if the file is no image, that of a review without a response if the documents are refused,
-- and 9 if an allocation failed
abbrev pub image_status : Refusal → ℕ
image_status (Image e) = 13
image_status (Run e) = run_status e
image_status _ = 9

-- a text of the code
abbrev pub text_view : Result (Vec ℕ Global) Refusal → Result (List ℕ) Refusal
text_view (Ok text) = Ok text.items
text_view (Err r) = Err r

-- the text or the refusal is written
abbrev pub WritesText : Result (List ℕ) Refusal → ℕ → List ℕ → List ℕ → ℕ → Type 0
WritesText (Ok text) status before after n = WritesDone text status before after n
WritesText (Err r) status before after n = (status ≡ image_status r) × Writes (refusal_line r) before after n

-- ---- listings

-- why a file has no listing: it holds no image; or an allocation failed, if it holds one
abbrev pub IsUnlisted : List ℕ → Refusal → Type 0
IsUnlisted file (Image e) = image_in file ≡ Err e
IsUnlisted file Memory = IsOk (image_in file)
IsUnlisted file _ = ⊥

-- the listing of the code of the image in a file, or why there is none
abbrev pub IsListing : List ℕ → Result (List ℕ) Refusal → Type 0
IsListing file (Ok text) = (image : Contents) × (image_in file ≡ Ok image) × Listing image.code text
IsListing file (Err r) = IsUnlisted file r

-- the listing of the code of the image in a file is written
abbrev pub ListsToRoom : List ℕ → ℕ → List ℕ → List ℕ → ℕ → Type 0
ListsToRoom file status before after n =
    (text : Result (List ℕ) Refusal) × IsListing file text × WritesText text status before after n
