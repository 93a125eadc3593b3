-- Replies are whole lines.
use Rattle.debugger.proofs.Prelude.{◌≡◌, ℕ, zero, suc, ◌+◌, ℤ, pos, negsuc, List, [], ◌∷◌, ◌++◌, decimal, length, take, drop, Option, refl, sym, ap, subst, ◌∙◌, append_assoc, codes, arith, signed_decimal, ◌*◌, nat_eq, nat_lt, slice_index, Memory, statement_slots, statement_text, slot_count, State, move_line, register_line, register_lines, registers_text, status_text, word_text, Status, Answer, SessionState, answer_of, answer_to, break_text, clear_text, is_refused, says, command_of, Frame, ValueOrError, digits_of_bytes, frame_line, frame_lines, frames_text, memory_line, memory_lines, memory_text, saved_text, value_line, value_text, listing_at, listing_line, listing_lines, outside_line, statement_at, AnswersInLines, message_lines, verdict_line, verdict_lines, verdict_word, word_line, word_lines, cut, Command, nat_tests, fold_push}
use Rattle.streams.proofs.Cut.{Whole, whole-append}
use Rattle.debugger.proofs.Quit.{either}

-- a text that ends with a line feed
record Fed (text : List ℕ) : Type 0 where
  line : List ℕ
  is_fed : text ≡ line ++ 10 ∷ []

feed : Fed (10 ∷ [])
feed = grind arith

behind : (front : List ℕ) {text : List ℕ} → Fed text → Fed (front ++ text)
behind front f = record { line = front ++ f.line; is_fed = ap (λ (t : List ℕ). front ++ t) f.is_fed ∙ sym (append_assoc front f.line (10 ∷ [])) }

fed_whole : {text : List ℕ} → Fed text → Whole text
unfolding cut
fed_whole f = grind (arith, fold_push)

break_whole : (slot : ℕ) → Whole (break_text slot)
unfolding break_text cut
break_whole slot = grind (arith, fold_push, append_assoc, codes, decimal)

clear_whole : (slot : ℕ) → Whole (clear_text slot)
unfolding clear_text cut
clear_whole slot = grind (arith, fold_push, append_assoc, codes, decimal)

move_whole : (k : ℕ) (pc : ℤ) (status : Status) → Whole (move_line k pc status)
unfolding move_line
move_whole k pc status = fed_whole (behind (codes "step ") (behind (decimal k) (behind (codes " pc ") (behind (signed_decimal pc) (behind (codes " ") (behind (status_text status) feed))))))

register_whole : (number w : ℕ) → Whole (register_line number w)
unfolding register_line
register_whole number w = fed_whole (behind (codes "r") (behind (decimal number) (behind (codes " ") (behind (word_text w) feed))))

lines_whole : (n : ℕ) (s : State) → Whole (register_lines n s)
unfolding register_lines cut
lines_whole zero s = refl
lines_whole (suc n) s = whole-append (register_lines n s) (register_line n (slice_index s.registers n)) (lines_whole n s) (register_whole n (slice_index s.registers n))

line_whole : (code : List ℕ) (slot : ℕ) → Whole (listing_line code slot)
unfolding listing_line
line_whole code slot = fed_whole (behind (decimal slot) (behind (codes " ") (behind (statement_text (statement_at code slot)) feed)))

listing_whole : (count : ℕ) (code : List ℕ) (slot : ℕ) → Whole (listing_lines count code slot)
unfolding listing_lines cut
listing_whole zero code slot = refl
listing_whole (suc count) code slot =
    either Whole (nat_lt slot (slot_count code)) (listing_line code slot ++ listing_lines count code (slot + statement_slots (statement_at code slot))) [] (whole-append (listing_line code slot) _ (line_whole code slot) (listing_whole count code (slot + statement_slots (statement_at code slot)))) refl

outside_whole : (pc : ℤ) → Whole (outside_line pc)
unfolding outside_line
outside_whole pc = fed_whole (behind (signed_decimal pc) (record { line = codes " outside"; is_fed = refl }))

at_whole : (code : List ℕ) (pc : ℤ) → Whole (listing_at code pc)
at_whole code pc = grind (arith, nat_tests, listing_whole, negsuc, outside_whole, pos)

value_whole : (h : ℕ) (text : List ℕ) → Whole (value_line h text)
unfolding value_line
value_whole h text = fed_whole (behind (codes "value ") (behind (decimal h) (behind (codes " ") (behind text feed))))

stored_whole : (h : ℕ) (v : Option ValueOrError) → Whole (value_text h v)
unfolding cut
stored_whole h v = grind (arith, nat_tests, value_whole)

memory_line-whole : (address : ℕ) (bytes : List ℕ) → Whole (memory_line address bytes)
unfolding memory_line
memory_line-whole address bytes = fed_whole (behind (word_text address) (behind (digits_of_bytes bytes) feed))

memory_lines-whole : (count address : ℕ) (bytes : List ℕ) → Whole (memory_lines count address bytes)
unfolding memory_lines cut
memory_lines-whole (suc count) address (b ∷ bs) =
    whole-append (memory_line address (take 16 (b ∷ bs))) _ (memory_line-whole address (take 16 (b ∷ bs))) (memory_lines-whole count (address + 16) (drop 16 (b ∷ bs)))
memory_lines-whole _ address _ = refl

bytes_whole : (address : ℕ) (bytes : Option (List ℕ)) → Whole (memory_text address bytes)
unfolding cut
bytes_whole address bytes = grind (arith, nat_tests, memory_lines-whole)

frame_whole : (f : Frame) → Whole (frame_line f)
unfolding frame_line
frame_whole f = fed_whole (behind (codes "return ") (behind (signed_decimal f.return_pc) (behind (saved_text f) feed)))

frame_lines-whole : (records : List Frame) → Whole (frame_lines records)
unfolding frame_lines cut
frame_lines-whole [] = refl
frame_lines-whole (f ∷ newer) = whole-append (frame_lines newer) (frame_line f) (frame_lines-whole newer) (frame_whole f)

frames_whole : (records : List Frame) → Whole (frames_text records)
unfolding frames_text
frames_whole records = subst Whole (append_assoc (codes "depth ") (decimal (length records) ++ 10 ∷ []) (frame_lines records) ∙ ap (λ (t : List ℕ). codes "depth " ++ t) (append_assoc (decimal (length records)) (10 ∷ []) (frame_lines records)))
    (whole-append (codes "depth " ++ (decimal (length records) ++ 10 ∷ [])) (frame_lines records) (fed_whole (behind (codes "depth ") (behind (decimal (length records)) feed))) (frame_lines-whole records))

word_whole : (name : List ℕ) (i word : ℕ) → Whole (word_line name i word)
unfolding word_line cut
word_whole name i word =
    either Whole (nat_eq word 0) [] (name ++ (codes " " ++ (decimal i ++ (codes " " ++ (decimal word ++ 10 ∷ []))))) refl
    (fed_whole (behind name (behind (codes " ") (behind (decimal i) (behind (codes " ") (behind (decimal word) feed))))))

words_whole : (name : List ℕ) (m : Memory) (from count : ℕ) → Whole (word_lines name m from count)
unfolding word_lines cut
words_whole name m from zero = refl
words_whole name m from (suc i) =
    whole-append (word_lines name m from i) (word_line name i (verdict_word m (from + 8 * i))) (words_whole name m from i) (word_whole name i (verdict_word m (from + 8 * i)))

verdict_whole : (version : ℕ) (m : Memory) → Whole (verdict_lines version m)
unfolding verdict_lines verdict_line cut
verdict_whole version m =
    whole-append (verdict_line m) _ (fed_whole (behind (codes "verdict ") (behind (decimal (verdict_word m 0)) (behind (codes " ") (behind (decimal (verdict_word m 8)) feed))))) (whole-append (word_lines (codes "validation") m 16 64) (message_lines version m) (words_whole (codes "validation") m 16 64)
    (either Whole (nat_eq version 2) (word_lines (codes "message") m 528 64) [] (words_whole (codes "message") m 528 64) refl))

abbrev Lined : Answer → Type 0
Lined a = Whole a.text

answer_of-whole : (s : State) (w : SessionState) (c : Command) → Lined (answer_of s w c)
unfolding answer_of registers_text cut
answer_of-whole s w c =
    grind (arith, nat_tests, at_whole, break_whole, bytes_whole, clear_whole, frames_whole, lines_whole, move_whole, stored_whole, verdict_whole)

pub answers_in_lines : AnswersInLines
unfolding answer_to cut
answers_in_lines s w l = either Lined (is_refused s w l) (says w (codes "? memory\n")) (answer_of s w (command_of l.0)) refl (answer_of-whole s w (command_of l.0))
