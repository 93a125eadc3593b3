-- What expressions read, call by call, and a run of one of them, by hand from what each helper's call reads. The values
-- that an expression goes through stand from the reference 4 on, and its texts in the constants.
use Rattle.std.specs.Prelude.{◌≡◌, ℕ, ◌+◌, ◌*◌, ◌^◌, pos, true, false, List, [], ◌∷◌, ◌++◌, codes, length, nat_le, replicate}
use Rattle.loader.specs.declared.version.Version.TheVariants.{First}
use Rattle.helper_table.specs.Reads.{reads_of}
use Rattle.helper_table.specs.Rows.{base, e_acute}
use Rattle.value_store.specs.Placing.{first_values}
use Rattle.value_store.specs.Value.{Value, null, int, text, list, map, no_items, item, no_entries, entry, ValueOrError, value}
use Rattle.bpf_machine.specs.Reads.{limited_place, reads_to}
use Rattle.bpf_machine.specs.State.{State, start_state}

-- what a call reads among these values, with these constants
abbrev pub call_reads_on : (vs : List ValueOrError) (constants : List ℕ) (number : ℕ) (args : List ℕ) → ℕ
call_reads_on vs constants number args = reads_of (pos number) args (first_values ++ vs) constants

-- a thousand letters, and the object {"t":..} with them
abbrev pub letters : List ℕ
letters = replicate 1000 97

abbrev pub with_letters : Value
with_letters = map (entry (codes "t") (text letters) no_entries)

-- object.t.contains('zq'): the object, its field, and the literal
abbrev pub in_search : ℕ → List ℕ → ℕ
in_search = call_reads_on (value with_letters ∷ value (text letters) ∷ value (text (codes "zq")) ∷ []) (codes "tzq")

-- object.spec.replicas <= 3 on {"spec":{"replicas":5}}: the object, two fields, and 3; it is tested whether 3 is less
abbrev pub replicas : Value
replicas = map (entry (codes "replicas") (int (pos 5)) no_entries)

abbrev pub in_order : ℕ → List ℕ → ℕ
in_order =
    call_reads_on
    (value (map (entry (codes "spec") replicas no_entries)) ∷ value replicas ∷ value (int (pos 5)) ∷ value (int (pos 3)) ∷ [])
    (codes "specreplicas")

-- 1 in [1, 2]: 1, the empty list, [1], 2, and [1, 2]
abbrev pub in_list : ℕ → List ℕ → ℕ
in_list =
    call_reads_on
    (value (int (pos 1))
    ∷ value (list no_items)
    ∷ value (list (item (int (pos 1)) no_items))
    ∷ value (int (pos 2))
    ∷ value (list (item (int (pos 1)) (item (int (pos 2)) no_items)))
    ∷ [])
    []

-- 'ab' == 'ac' and 'ab' == 'abc': the three literals
abbrev pub in_equality : ℕ → List ℕ → ℕ
in_equality = call_reads_on (value (text (codes "ab")) ∷ value (text (codes "ac")) ∷ value (text (codes "abc")) ∷ []) (codes "abacabc")

-- size('é') == 1: the literal, its size, and 1
abbrev pub in_size : ℕ → List ℕ → ℕ
in_size = call_reads_on (value (text e_acute) ∷ value (int (pos 1)) ∷ value (int (pos 1)) ∷ []) e_acute

-- the calls of these expressions
pub record ExpressionReadsHold : Type 0 where
  -- the key t once, for one entry; the literal; both texts
  pub search_field : in_search 5 (4 ∷ base ∷ 1 ∷ []) ≡ 1
  pub search_literal : in_search 4 ((base + 1) ∷ 2 ∷ []) ≡ 2
  pub search_contains : in_search 14 (5 ∷ 6 ∷ []) ≡ 1002
  -- each key once, for one entry; ints have no bytes to compare
  pub order_spec : in_order 5 (4 ∷ base ∷ 4 ∷ []) ≡ 4
  pub order_replicas : in_order 5 (5 ∷ (base + 4) ∷ 8 ∷ []) ≡ 8
  pub order_less : in_order 10 (7 ∷ 6 ∷ []) ≡ 0
  -- a list that is made reads nothing; [1,2] and 1 have 5 + 1 bytes, which is less than 2 * (8 + 1)
  pub list_new : in_list 16 [] ≡ 0
  pub list_first : in_list 17 (5 ∷ 4 ∷ []) ≡ 0
  pub list_second : in_list 17 (6 ∷ 7 ∷ []) ≡ 0
  pub list_member : in_list 15 (4 ∷ 8 ∷ []) ≡ 6
  -- two texts of four bytes in JSON; one of four and one of five
  pub equality_literal : in_equality 4 (base ∷ 2 ∷ []) ≡ 2
  pub equality_same_length : in_equality 9 (4 ∷ 5 ∷ []) ≡ 4
  pub equality_other_length : in_equality 9 (4 ∷ 6 ∷ []) ≡ 0
  -- two bytes; then two ints of one digit
  pub size_literal : in_size 4 (base ∷ 2 ∷ []) ≡ 2
  pub size_text : in_size 8 (4 ∷ []) ≡ 2
  pub size_equal : in_size 9 (5 ∷ 6 ∷ []) ≡ 1

-- a text and a list under the keys t and l
abbrev pub with_list : List ℕ → Value → Value
with_list t items = map (entry (codes "l") items (entry (codes "t") (text t) no_entries))

-- object.l.all(x, !object.t.contains('zq')): the object, its text, and the literal
abbrev pub in_loop : List ℕ → Value → ℕ → List ℕ → ℕ
in_loop t items = call_reads_on (value (with_list t items) ∷ value (text t) ∷ value (text (codes "zq")) ∷ []) (codes "ltzq")

-- what the field l and n turns of this loop read, for a text of 1,200,000 bytes
abbrev pub turns_read : ℕ → ℕ
turns_read n = 2 + n * (2 + 2 + 1200002)

-- the calls of that loop, whatever the list and the bytes of the text; a number of two entries has two binary digits
pub record SearchLoopHolds : Type 0 where
  pub loop_items : (t : List ℕ) (is : Value) → in_loop t is 5 (4 ∷ base ∷ 1 ∷ []) ≡ 2
  pub loop_field : (t : List ℕ) (is : Value) → in_loop t is 5 (4 ∷ (base + 1) ∷ 1 ∷ []) ≡ 2
  pub loop_literal : (t : List ℕ) (is : Value) → in_loop t is 4 ((base + 2) ∷ 2 ∷ []) ≡ 2
  pub loop_contains : (t : List ℕ) (is : Value) → length t ≡ 1200000 → in_loop t is 14 (5 ∷ 6 ∷ []) ≡ 1200002
  -- a limit of 2 ^ 28 has room for 223 turns
  pub last_turn : nat_le (turns_read 223) (2 ^ 28) ≡ true
  pub turn_too_many : nat_le (turns_read 224) (2 ^ 28) ≡ false

-- r1 = the object; r2 = the address of t; r3 = 1; call 5; r6 = r0; r1 = the address of zq; r2 = 2; call 4; r1 = r6;
-- r2 = r0; call 14; exit
abbrev pub search_code : List ℕ
search_code =
    0xb7 ∷ 1 ∷ 0 ∷ 0 ∷ 4 ∷ 0 ∷ 0 ∷ 0 ∷ 0x18 ∷ 2 ∷ 0 ∷ 0 ∷ 0 ∷ 0 ∷ 0 ∷ 0 ∷ 0 ∷ 0 ∷ 0 ∷ 0 ∷ 4 ∷ 0 ∷ 0 ∷ 0
    ∷ 0xb7 ∷ 3 ∷ 0 ∷ 0 ∷ 1 ∷ 0 ∷ 0 ∷ 0 ∷ 0x85 ∷ 0 ∷ 0 ∷ 0 ∷ 5 ∷ 0 ∷ 0 ∷ 0 ∷ 0xbf ∷ 6 ∷ 0 ∷ 0 ∷ 0 ∷ 0 ∷ 0 ∷ 0
    ∷ 0x18 ∷ 1 ∷ 0 ∷ 0 ∷ 1 ∷ 0 ∷ 0 ∷ 0 ∷ 0 ∷ 0 ∷ 0 ∷ 0 ∷ 4 ∷ 0 ∷ 0 ∷ 0 ∷ 0xb7 ∷ 2 ∷ 0 ∷ 0 ∷ 2 ∷ 0 ∷ 0 ∷ 0
    ∷ 0x85 ∷ 0 ∷ 0 ∷ 0 ∷ 4 ∷ 0 ∷ 0 ∷ 0 ∷ 0xbf ∷ 0x61 ∷ 0 ∷ 0 ∷ 0 ∷ 0 ∷ 0 ∷ 0 ∷ 0xbf ∷ 2 ∷ 0 ∷ 0 ∷ 0 ∷ 0 ∷ 0 ∷ 0
    ∷ 0x85 ∷ 0 ∷ 0 ∷ 0 ∷ 14 ∷ 0 ∷ 0 ∷ 0 ∷ 0x95 ∷ 0 ∷ 0 ∷ 0 ∷ 0 ∷ 0 ∷ 0 ∷ 0 ∷ []

-- its start on the object with a thousand letters, which is charged 1,004, and four null roots, charged 1 each
abbrev pub search_start : State
search_start =
    start_state
    (record { version = First; code = search_code; constants = codes "tzq" })
    (record { values = first_values ++ (value with_letters ∷ value null ∷ value null ∷ value null ∷ value null ∷ []); charge = 1008 })

-- steps 4, 8 and 11 are the calls, which read 1, 2 and 1,002
pub record SearchRunHolds : Type 0 where
  pub run_before_the_field : reads_to 3 search_start ≡ 0
  pub run_field : reads_to 4 search_start ≡ 1
  pub run_literal : reads_to 8 search_start ≡ 3
  pub run_before_the_search : reads_to 10 search_start ≡ 3
  pub run_search : reads_to 11 search_start ≡ 1005
  -- a limit that holds the run before each call, and one that does not
  pub held_before_the_field : limited_place 4 0 search_start ≡ 3
  pub held_before_the_literal : limited_place 8 2 search_start ≡ 7
  pub held_before_the_search : limited_place 11 1004 search_start ≡ 10
  pub held_nowhere : limited_place 11 1005 search_start ≡ 11
