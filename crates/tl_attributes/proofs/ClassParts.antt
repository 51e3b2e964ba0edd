-- The parts of a class value, from the front.
use Rattle.std.proofs.Common.{◌≡◌, ℕ, zero, suc, ◌+◌, ◌<◌, ◌≤◌, Bool, true, false, not, List, [], ◌∷◌, length, take, drop, slice_range, slice_index, nat_le, ◌&&◌, ◌||◌, ◌⊎◌, inl, inr, Option, Some, None, option_map, subst, refl, sym, ◌∙◌, ap, arith, cond, filter, unwrap_or}
use Rattle.std.proofs.lemmas.Bool.{and_parts, or_cases, leb-true}
use Rattle.std.proofs.lemmas.List.{drop-drop}
use Rattle.std.proofs.lemmas.Str.{is_utf8-from_IsUtf8, IsUtf8-from_is_utf8}
use Rattle.std.specs.List.{list_any, prefix_len, slice_split, onto_first}
use Rattle.std.specs.Char.{is_ascii_whitespace}
use Rattle.std.specs.Int.{is_in_range}
use Rattle.std.specs.Str.{IsCharBoundary, IsUtf8, bytes_eq, is_utf8}
use Rattle.tl_spec.specs.Lookup.ClassMember.{has_member, parts, class_parts}
use Rattle.tl_spec.specs.Lex.Runs.{has_bytes}

abbrev pub in_part : ℕ → Bool
in_part b = not (is_ascii_whitespace b)

abbrev nonempty : List (List ℕ) → List (List ℕ)
nonempty ws = filter has_bytes ws

len_more : (p : ℕ → Bool) (b : ℕ) (bs : List ℕ) → p b ≡ true → prefix_len p (b ∷ bs) ≡ suc (prefix_len p bs)
len_more p b bs e = ap (λ c. cond c (1 + prefix_len p bs) 0) e ∙ omega arith

len_none : (p : ℕ → Bool) (b : ℕ) (bs : List ℕ) → p b ≡ false → prefix_len p (b ∷ bs) ≡ 0
len_none p b bs e = ap (λ c. cond c (1 + prefix_len p bs) 0) e

-- a white byte in front changes no part
after_white : (b : ℕ) (bs : List ℕ) → is_ascii_whitespace b ≡ true → parts bs ≡ parts (b ∷ bs)
after_white b bs e = ap (λ c. nonempty (cond c ([] ∷ slice_split is_ascii_whitespace bs) (onto_first b (slice_split is_ascii_whitespace bs)))) (sym e)

pub no_more : (p : ℕ → Bool) (bs : List ℕ) → prefix_len p (drop (prefix_len p bs) bs) ≡ 0
no_more p [] = refl
no_more p (b ∷ bs) = one (no_more p bs) (p b) refl
  where
    one : prefix_len p (drop (prefix_len p bs) bs) ≡ 0 → (w : Bool) → p b ≡ w → prefix_len p (drop (prefix_len p (b ∷ bs)) (b ∷ bs)) ≡ 0
    one h true e = ap (λ n. prefix_len p (drop n (b ∷ bs))) (len_more p b bs e) ∙ h
    one h false e = ap (λ n. prefix_len p (drop n (b ∷ bs))) (len_none p b bs e) ∙ len_none p b bs e

-- the split after the first run: its later parts
abbrev later : List ℕ → List (List ℕ)
later [] = []
later (b ∷ bs) = slice_split is_ascii_whitespace bs

abbrev split_at : List ℕ → ℕ → List (List ℕ)
split_at bs n = take n bs ∷ later (drop n bs)

first_run : (bs : List ℕ) → slice_split is_ascii_whitespace bs ≡ split_at bs (prefix_len in_part bs)
first_run [] = refl
first_run (b ∷ bs) = one (first_run bs) (is_ascii_whitespace b) refl
  where
    either : Bool → List (List ℕ)
    either c = cond c ([] ∷ slice_split is_ascii_whitespace bs) (onto_first b (slice_split is_ascii_whitespace bs))

    one : slice_split is_ascii_whitespace bs ≡ split_at bs (prefix_len in_part bs) → (w : Bool) → is_ascii_whitespace b ≡ w → slice_split is_ascii_whitespace (b ∷ bs) ≡ split_at (b ∷ bs) (prefix_len in_part (b ∷ bs))
    one h true e = ap either e ∙ ap (split_at (b ∷ bs)) (sym (len_none in_part b bs (ap not e)))
    one h false e = ap either e ∙ ap (onto_first b) h ∙ ap (split_at (b ∷ bs)) (sym (len_more in_part b bs (ap not e)))

later_parts : (bs : List ℕ) → prefix_len in_part bs ≡ 0 → nonempty (later bs) ≡ parts bs
later_parts [] h = refl
later_parts (b ∷ bs) h = one (is_ascii_whitespace b) refl
  where
    one : (w : Bool) → is_ascii_whitespace b ≡ w → parts bs ≡ parts (b ∷ bs)
    one true e = after_white b bs e
    one false e = absurd (omega (arith, len_more in_part b bs (ap not e), h))

taken : (n : ℕ) (bs : List ℕ) (ws : List (List ℕ)) → 0 < n → n ≤ length bs → nonempty (take n bs ∷ ws) ≡ take n bs ∷ nonempty ws
taken zero bs ws h g = absurd (omega arith)
taken (suc n) [] ws h g = absurd (omega arith)
taken (suc n) (b ∷ bs) ws h g = refl

pub one_part : (bs : List ℕ) (n : ℕ) → n ≡ prefix_len in_part bs → n ≤ length bs → 0 < n → parts bs ≡ take n bs ∷ parts (drop n bs)
one_part bs n e h g =
    ap nonempty (first_run bs)
    ∙ ap (λ m. nonempty (split_at bs m)) (sym e)
    ∙ taken n bs (later (drop n bs)) g h
    ∙ ap (λ ws. take n bs ∷ ws) (later_parts (drop n bs) (ap (λ m. prefix_len in_part (drop m bs)) e ∙ no_more in_part bs))

-- white bytes in front change no part
pub parts_past : (bs : List ℕ) → parts (drop (prefix_len is_ascii_whitespace bs) bs) ≡ parts bs
parts_past [] = refl
parts_past (b ∷ bs) = one (parts_past bs) (is_ascii_whitespace b) refl
  where
    one : parts (drop (prefix_len is_ascii_whitespace bs) bs) ≡ parts bs → (w : Bool) → is_ascii_whitespace b ≡ w → parts (drop (prefix_len is_ascii_whitespace (b ∷ bs)) (b ∷ bs)) ≡ parts (b ∷ bs)
    one h true e = ap (λ n. parts (drop n (b ∷ bs))) (len_more is_ascii_whitespace b bs e) ∙ h ∙ after_white b bs e
    one h false e = ap (λ n. parts (drop n (b ∷ bs))) (len_none is_ascii_whitespace b bs e)

none_left : (bs : List ℕ) → prefix_len is_ascii_whitespace bs ≡ 0 → prefix_len in_part bs ≡ 0 → bs ≡ []
none_left [] e f = refl
none_left (b ∷ bs) e f = one (is_ascii_whitespace b) refl
  where
    one : (w : Bool) → is_ascii_whitespace b ≡ w → b ∷ bs ≡ []
    one true g = absurd (omega (arith, len_more is_ascii_whitespace b bs g, e))
    one false g = absurd (omega (arith, len_more in_part b bs (ap not g), f))

-- text whose front is neither white nor in a part has no parts
pub no_parts : (bs : List ℕ) (n : ℕ) → prefix_len is_ascii_whitespace bs ≡ 0 → n ≡ prefix_len in_part bs → n ≡ 0 → parts bs ≡ []
no_parts bs n e f g = ap parts (none_left bs e (sym f ∙ g))

-- white bytes from a place on change no part
pub past_white : (bs : List ℕ) (at n : ℕ) → n ≡ prefix_len is_ascii_whitespace (drop at bs) → parts (drop at bs) ≡ parts (drop (at + n) bs)
past_white bs at n e = sym (parts_past (drop at bs)) ∙ ap (λ m. parts (drop m (drop at bs))) (sym e) ∙ ap parts (drop-drop n at bs)

-- and none of them stands after them
pub no_white : (bs : List ℕ) (at n : ℕ) → n ≡ prefix_len is_ascii_whitespace (drop at bs) → prefix_len is_ascii_whitespace (drop (at + n) bs) ≡ 0
no_white bs at n e = ap (prefix_len is_ascii_whitespace) (sym (drop-drop n at bs) ∙ ap (λ m. drop m (drop at bs)) e) ∙ no_more is_ascii_whitespace (drop at bs)

-- the run at a place is the first part from there on
pub part_at : (bs : List ℕ) (at n : ℕ) → n ≡ prefix_len in_part (drop at bs) → n ≤ length (drop at bs) → 0 < n → parts (drop at bs) ≡ slice_range bs at (at + n) ∷ parts (drop (at + n) bs)
part_at bs at n e h g =
    one_part (drop at bs) n e h g
    ∙ ap (λ rest. take n (drop at bs) ∷ parts rest) (drop-drop n at bs)
    ∙ ap (λ m. take m (drop at bs) ∷ parts (drop (at + n) bs)) (omega arith)

-- where no part begins at the front, none is lost with the first byte
past_one : (bs : List ℕ) → prefix_len in_part bs ≡ 0 → parts bs ≡ parts (drop 1 bs)
past_one [] h = refl
past_one (b ∷ bs) h = sym (later_parts (b ∷ bs) h)

-- the byte after a run from a place is in no part
past_run : (bs : List ℕ) (at n : ℕ) → n ≡ prefix_len in_part (drop at bs) → parts (drop (at + n) bs) ≡ parts (drop (at + n + 1) bs)
past_run bs at n e =
    past_one (drop (at + n) bs) (ap (prefix_len in_part) (sym (drop-drop n at bs) ∙ ap (λ m. drop m (drop at bs)) e) ∙ no_more in_part (drop at bs))
    ∙ ap parts (drop-drop 1 (at + n) bs)

-- a run from a place is the first part from there on
pub run_at : (bs : List ℕ) (at n : ℕ) → n ≡ prefix_len in_part (drop at bs) → n ≤ length (drop at bs) → 0 < n
    → parts (drop at bs) ≡ slice_range bs at (at + n) ∷ parts (drop (at + n + 1) bs)
run_at bs at n e h g = part_at bs at n e h g ∙ ap (λ rest. slice_range bs at (at + n) ∷ rest) (past_run bs at n e)

-- and an empty one is no part
pub no_run_at : (bs : List ℕ) (at n : ℕ) → n ≡ prefix_len in_part (drop at bs) → n ≡ 0 → parts (drop at bs) ≡ parts (drop (at + n + 1) bs)
no_run_at bs at n e z = ap (λ m. parts (drop m bs)) (omega (arith, z)) ∙ past_run bs at n e

in_low : (lo hi b : ℕ) → is_in_range lo hi b ≡ true → b ≤ hi
in_low lo hi b e = leb-true b hi (and_parts (nat_le lo b) (nat_le b hi) e).1

white_is_ascii : (b : ℕ) → is_ascii_whitespace b ≡ true → b < 128
white_is_ascii b e = outer (or_cases (is_in_range 9 10 b || is_in_range 12 13 b) (is_in_range 32 32 b) e)
  where
    inner : (is_in_range 9 10 b ≡ true) ⊎ (is_in_range 12 13 b ≡ true) → b < 128
    inner (inl h) = omega (arith, in_low 9 10 b h)
    inner (inr h) = omega (arith, in_low 12 13 b h)

    outer : ((is_in_range 9 10 b || is_in_range 12 13 b) ≡ true) ⊎ (is_in_range 32 32 b ≡ true) → b < 128
    outer (inl h) = inner (or_cases (is_in_range 9 10 b) (is_in_range 12 13 b) h)
    outer (inr h) = omega (arith, in_low 32 32 b h)

-- a part ends at a byte of ASCII
ends_at_ascii : (bs : List ℕ) → prefix_len in_part bs < length bs → slice_index bs (prefix_len in_part bs) < 128
ends_at_ascii [] l = absurd (omega arith)
ends_at_ascii (b ∷ bs) l = one (ends_at_ascii bs) (is_ascii_whitespace b) refl
  where
    one : (prefix_len in_part bs < length bs → slice_index bs (prefix_len in_part bs) < 128) → (w : Bool) → is_ascii_whitespace b ≡ w → slice_index (b ∷ bs) (prefix_len in_part (b ∷ bs)) < 128
    one h true e = rw (len_none in_part b bs (ap not e)) (white_is_ascii b e)
    one h false e = rw (len_more in_part b bs (ap not e)) (h (omega (arith, len_more in_part b bs (ap not e), l)))

pub part_boundary : (bs : List ℕ) (n : ℕ) → n ≡ prefix_len in_part bs → n ≤ length bs → IsCharBoundary bs n
part_boundary bs n e h =
    (h, λ l high. absurd (omega (arith, high, ends_at_ascii bs (subst (λ m. m < length bs) e l), ap (slice_index bs) e)))

text_parts : (v : List ℕ) → IsUtf8 v → Some (parts v) ≡ class_parts (Some v)
text_parts v h = rw (is_utf8-from_IsUtf8 v h) refl

other_parts : (v : List ℕ) (b : Bool) → is_utf8 v ≡ b → (IsUtf8 v → ⊥) → None ≡ class_parts (Some v)
other_parts v true e h = absurd (h (IsUtf8-from_is_utf8 v e))
other_parts v false e h = rw e refl

module _ {B : Type 0} (list : B → List ℕ) (class : Option B) (x : B) (v : List ℕ) where
  same_class : Some x ≡ class → v ≡ list x → class_parts (Some v) ≡ class_parts (option_map list class)
  same_class h e = ap (λ w. class_parts (Some w)) e ∙ ap (λ c. class_parts (option_map list c)) h

  -- the parts of a class that is UTF-8
  pub parts_of_text : (rest : List ℕ) → Some x ≡ class → v ≡ list x → rest ≡ v → IsUtf8 v → Some (parts rest) ≡ class_parts (option_map list class)
  parts_of_text rest h e f u = ap (λ w. Some (parts w)) f ∙ text_parts v u ∙ same_class h e

  -- a class that is not UTF-8 has none
  pub no_text : Some x ≡ class → v ≡ list x → (IsUtf8 v → ⊥) → None ≡ class_parts (option_map list class)
  no_text h e u = other_parts v (is_utf8 v) refl u ∙ same_class h e

-- a member of a class is a part of it, and the class is a text
pub member_is : (class name : List ℕ) → has_member (Some class) name ≡ (list_any (bytes_eq name) (parts class) && is_utf8 class)
member_is class name = one (list_any (bytes_eq name) (parts class)) refl (is_utf8 class)
  where
    one : (a : Bool) → list_any (bytes_eq name) (parts class) ≡ a → (b : Bool) → list_any (bytes_eq name) (unwrap_or (cond b (Some (parts class)) None) []) ≡ (a && b)
    one true e true = e
    one false e true = e
    one true e false = refl
    one false e false = refl

pub is_text : (bs : List ℕ) → IsUtf8 bs → true ≡ is_utf8 bs
is_text bs h = sym (is_utf8-from_IsUtf8 bs h)

pub is_no_text : (bs : List ℕ) → (IsUtf8 bs → ⊥) → false ≡ is_utf8 bs
is_no_text bs h = one (is_utf8 bs) refl
  where
    one : (b : Bool) → is_utf8 bs ≡ b → false ≡ b
    one true e = absurd (h (IsUtf8-from_is_utf8 bs e))
    one false e = refl
