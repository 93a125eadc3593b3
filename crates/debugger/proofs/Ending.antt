-- What a session has read and written after it has ended.
use Rattle.debugger.proofs.Prelude.{◌≡◌, ℕ, ◌<◌, ◌≤◌, Bool, true, false, List, [], ◌++◌, ◌⊎◌, length, take, drop, Option, Some, refl, sym, ap, ◌∙◌, inl, inr, subst, arith, Result, Ok, Err, length-take, take-append-drop, take-take, State, cut, has_quit, input_lines, readable, Dialogue, IsDialogue, dialogue_of, append-nil, SessionGoesOn, TranscriptCut, Transcript, ReadsAndWrites, IsSession, TranscriptEnds, TranscriptBreaks, SessionError, ReadFailed, WriteFailed, HeardByResult, ReadsSome, ReadsToEnd}
use Rattle.std.proofs.Common.{IsErrAnd}
use Rattle.streams.specs.Streams.{Stream}
use Rattle.debugger.specs.Transcript as transcript
use Rattle.streams.specs.declared.session_error.SessionError.TheVariants.{Memory}
use Rattle.debugger.proofs.Going.{heard-off, quiet_front}
use Rattle.streams.proofs.Cut.{input_lines-append, readable-all, readable-front}

module _ (s : State) (input before : List ℕ) (left written : Option (List ℕ)) where
  abbrev Told : Result (Unit {0}) SessionError → Type 0
  Told result = ReadsAndWrites s input before left written result

  -- the text of these lines was written
  all_told : (read : ℕ) (talk : Dialogue) → read ≤ length (readable input) → left ≡ Some (drop read input)
      → ((n : ℕ) → n < read → has_quit (cut (take n input)).0 ≡ false)
      → (has_quit (cut (take read input)).0 ≡ true) ⊎ (read ≡ length (readable input)) → IsDialogue s (input_lines (readable input)) talk
      → written ≡ Some (before ++ talk.text) → Told (Ok tt)
  all_told read talk within gone quiet ends is wrote = record {
    read = read;
    text = (dialogue_of s is.marked).text;
    within = within;
    left_is = gone;
    written_is = wrote ∙ ap (λ (t : Dialogue). Some (before ++ t.text)) (sym is.talk_is);
    transcript = transcript.all is.marked quiet ends is.lines_are;
  }

  -- a line that ends the session
  quit_told : ReadsSome (TranscriptEnds false s before) input left written → Told (Ok tt)
  quit_told r =
      let t = r.of_bytes in
      let front = readable-front input r.read r.within in
      let rest = input_lines-append (take r.read input) (drop r.read (readable input)) in
      let split : readable input ≡ take r.read input ++ drop r.read (readable input) = sym (take-append-drop r.read (readable input)) ∙ ap (λ (xs : List ℕ). xs ++ drop r.read (readable input)) front in
      all_told r.read t.talk r.within r.left_is
      (λ n low.
      ap (λ (bytes : List ℕ). has_quit (cut bytes).0) (sym (take-take n r.read input (omega (arith, low))))
      ∙ t.goes_on n (let size = ap length front in omega (arith, low, r.within, size, length-take r.read (readable input))))
      (inl t.quits)
      (subst (λ (ls : List (List ℕ)). IsDialogue s ls t.talk) (sym (ap input_lines split ∙ rest.1))
      (heard-off s (cut (take r.read input)).0 rest.0 t.talk t.lines t.ended))
      t.written_is

  -- the input's end
  end_told : ReadsToEnd (TranscriptEnds true s before) input left written → Told (Ok tt)
  end_told r =
      let t = r.of_bytes in
      all_told (length (readable input)) t.talk (omega arith) r.left_is
      (λ n low.
      ap (λ (bytes : List ℕ). has_quit (cut bytes).0) (sym (readable-front input n (omega (arith, low))))
      ∙ quiet_front (readable input) n t.goes_on)
      (inr refl) t.lines t.written_is

  -- a write that failed
  cut_told : (read : ℕ) → read ≤ length (readable input) → left ≡ Some (drop read input) → TranscriptCut s before (take read input) written
      → ((cut (take read input)).1 ≡ []) ⊎ (read ≡ length (readable input)) → Told (Err WriteFailed)
  cut_told read inside gone t ends = record {
    read = read;
    text = (dialogue_of s t.answered).text ++ t.part;
    within = inside;
    left_is = gone;
    written_is = t.part_written;
    transcript = transcript.part t.answered t.last t.part t.rest ends t.lines_are t.part_is t.is_cut;
  }

  -- a read that failed
  some_told : (o : State) (line slots : List ℕ) (k : ℕ) → ReadsSome (SessionGoesOn o s before line slots k) input left written → Told (Err ReadFailed)
  some_told o line slots k r =
      let t = r.of_bytes.1 in
      record {
        read = r.read;
        text = (dialogue_of s t.lines.marked).text;
        within = r.within;
        left_is = r.left_is;
        written_is = t.written_is ∙ ap (λ (d : Dialogue). Some (before ++ d.text)) (sym t.lines.talk_is);
        transcript = transcript.some t.lines.marked t.goes_on t.lines.lines_are;
      }

  -- an allocation that failed before the first line
  pub none_told : left ≡ Some input → written ≡ Some before → Told (Err Memory)
  none_told gone wrote = record {
    read = 0;
    text = [];
    within = omega arith;
    left_is = gone;
    written_is = wrote ∙ ap Some (sym (append-nil before));
    transcript = transcript.none;
  }

  pub session_told : (o : State) (line slots : List ℕ) (k : ℕ) (result : Result (Unit {0}) SessionError)
      → HeardByResult (SessionGoesOn o s before line slots k) (λ last. TranscriptEnds last s before) (λ last. TranscriptBreaks last s before) input left written result
      → Told result
  session_told o line slots k (Ok u) (inl r) = quit_told r
  session_told o line slots k (Ok u) (inr r) = end_told r
  session_told o line slots k (Err ReadFailed) r = some_told o line slots k r
  session_told o line slots k (Err WriteFailed) (inl r) = cut_told r.read r.within r.left_is r.of_bytes.0 (inl r.of_bytes.1)
  session_told o line slots k (Err WriteFailed) (inr r) =
      cut_told (length (readable input)) (omega arith) r.left_is
      (subst (λ (bytes : List ℕ). TranscriptCut s before bytes written) (sym (readable-all input)) r.of_bytes) (inr refl)
  session_told o line slots k (Err Memory) none = absurd none

-- a session that did not start: nothing was read or written
pub unstarted : (s : State) (r w : Stream) (result : Result (Unit {0}) SessionError) → IsErrAnd result (λ e. e ≡ Memory) → IsSession s r r w w result
unstarted s r w (Ok u) is = absurd is
unstarted s r w (Err e) is = subst (λ (q : SessionError). IsSession s r r w w (Err q)) (sym is) (record {
  told = λ input before left written. none_told s input before r.bytes w.bytes left written;
  text = λ input before written left wrote is none. tt;
  fails = (refl, refl);
})
