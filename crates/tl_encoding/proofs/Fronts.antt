-- Runs of ASCII in front of bytes: what they are, and what a text has of them.
use Rattle.std.proofs.Common.{◌≡◌, ◌∙◌, ℕ, ◌+◌, ◌<◌, ◌≤◌, true, false, not, List, [], ◌∷◌, ◌++◌, Some, ap, append_assoc, sym, refl, arith, inl, inr, drop, length, suc, take, encode_utf8, encode_utf8_all, flat_map, nat_le, nat_lt, rules}
use Rattle.std.proofs.lemmas.Bool.{cases_Bool, lt-leb, lt-ltb, cond-true, cond-false, eq-eqb, ltb-true, ne_eqb}
use Rattle.std.proofs.lemmas.Simd.{chunk-drop, length-chunk}
use Rattle.std.proofs.lemmas.Str.{encode_ascii}
use Rattle.std.proofs.lemmas.Str.Ascii.{IsAscii-cons, IsAscii-nil}
use Rattle.std.proofs.lemmas.List.Folds.{prefix_len-append}
use Rattle.std.proofs.lemmas.List.Sums.{prefix_len-le-length, take_while-cons}
use Rattle.std.specs.Char.{is_ascii}
use Rattle.std.specs.Int.{is_in_range}
use Rattle.std.specs.List.{prefix_len}
use Rattle.std.specs.Str.{IsAscii}
use Rattle.tl_encoding.specs.MultiByte.{after, alone, count, given, multi_byte, multi_byte_wrong}
use Rattle.tl_encoding.specs.SingleByte.{of_index}
use Rattle.tl_encoding.specs.declared.multi_byte.Held.{Held}
use Rattle.tl_encoding.specs.declared.multi_byte.Held.TheVariants.{Nothing, Lead, Jis0212, Second, Third}
use Rattle.tl_encoding.specs.declared.multi_byte.MultiByte.{MultiByte}
use Rattle.tl_encoding.specs.declared.multi_byte.MultiByte.TheVariants.{Big5, EucJp, EucKr, Gb18030, Gbk, ShiftJis}

more : (n b : ℕ) (s : List ℕ) → take (1 + n) (b ∷ s) ≡ b ∷ take n s
more n b s = let e : 1 + n ≡ suc n = omega arith in rw e refl

less : (n b : ℕ) (s : List ℕ) → drop (1 + n) (b ∷ s) ≡ drop n s
less n b s = let e : 1 + n ≡ suc n = omega arith in rw e refl

-- what goes on behind each byte of ASCII, which it writes as it is, writes a run of them at once
pub front : (F : List ℕ → List ℕ) → ((b : ℕ) (s : List ℕ) → is_ascii b ≡ true → F (b ∷ s) ≡ b ∷ F s) → (s : List ℕ)
    → F s ≡ take (prefix_len is_ascii s) s ++ F (drop (prefix_len is_ascii s) s)
front F plain [] = refl
front F plain (b ∷ s) = elim (cases_Bool (is_ascii b)) [
  | inl y ↦ plain b s y ∙ ap (λ t. b ∷ t) (front F plain s) ∙ sym (rw (y, more (prefix_len is_ascii s) b s, less (prefix_len is_ascii s) b s) refl)
  | inr n ↦ sym (rw n refl)
]

-- a run has its first byte
pub is_one : (b : ℕ) (s : List ℕ) → is_ascii b ≡ true → 0 < prefix_len is_ascii (b ∷ s)
is_one b s y = rw y (omega arith)

pub run_is_ascii : (s : List ℕ) → IsAscii (take (prefix_len is_ascii s) s)
run_is_ascii [] = IsAscii-nil
run_is_ascii (b ∷ s) = elim (cases_Bool (is_ascii b)) [
  | inl y ↦ rw (take_while-cons is_ascii b s, y) (IsAscii-cons b (take (prefix_len is_ascii s) s) (ltb-true b 128 y) (run_is_ascii s))
  | inr n ↦ rw (take_while-cons is_ascii b s, n) IsAscii-nil
]

-- the text of single bytes
pub of_single : (table : List ℕ) (s : List ℕ) → flat_map (λ b. encode_utf8 (of_index table b)) s
    ≡ take (prefix_len is_ascii s) s ++ flat_map (λ b. encode_utf8 (of_index table b)) (drop (prefix_len is_ascii s) s)
of_single table s = front (λ t. flat_map (λ b. encode_utf8 (of_index table b)) t) (λ b t y. rw (y, encode_ascii b (ltb-true b 128 y)) refl) s

-- that of several bytes, where none is held
first_ascii : (name : MultiByte) (b : ℕ) → is_ascii b ≡ true → encode_utf8_all (given name Nothing b) ≡ b ∷ []
first_ascii Big5 b y = rw (y, encode_ascii b (ltb-true b 128 y)) refl
first_ascii EucJp b y = rw (y, encode_ascii b (ltb-true b 128 y)) refl
first_ascii EucKr b y = rw (y, encode_ascii b (ltb-true b 128 y)) refl
first_ascii Gb18030 b y = rw (y, encode_ascii b (ltb-true b 128 y)) refl
first_ascii Gbk b y = rw (y, encode_ascii b (ltb-true b 128 y)) refl
first_ascii ShiftJis b y =
    let wide : nat_lt b 0x81 ≡ true = search (rules, lt-ltb b 0x81 (omega (arith, ltb-true b 128 y))) in
    rw (wide, encode_ascii b (ltb-true b 128 y)) refl

below_range : (low high b : ℕ) → b < low → is_in_range low high b ≡ false
below_range low high b h = let e : nat_le low b ≡ false = lt-leb low b h in rw e refl

none_after : (name : MultiByte) (b : ℕ) → is_ascii b ≡ true → after name Nothing b ≡ Nothing
none_after Big5 b y = rw (below_range 0x81 0xFE b (omega (arith, ltb-true b 128 y))) refl
none_after EucJp b y = rw (below_range 0x8E 0x8F b (omega (arith, ltb-true b 128 y)), below_range 0xA1 0xFE b (omega (arith, ltb-true b 128 y))) refl
none_after EucKr b y = rw (below_range 0x81 0xFE b (omega (arith, ltb-true b 128 y))) refl
none_after Gb18030 b y = rw (below_range 0x81 0xFE b (omega (arith, ltb-true b 128 y))) refl
none_after Gbk b y = rw (below_range 0x81 0xFE b (omega (arith, ltb-true b 128 y))) refl
none_after ShiftJis b y = rw (below_range 0x81 0x9F b (omega (arith, ltb-true b 128 y)), below_range 0xE0 0xFC b (omega (arith, ltb-true b 128 y))) refl

pub ascii_first : (name : MultiByte) (b : ℕ) (s : List ℕ) → is_ascii b ≡ true → multi_byte name Nothing (b ∷ s) ≡ b ∷ multi_byte name Nothing s
ascii_first name b s y = rw (first_ascii name b y, none_after name b y) refl

known : (name : MultiByte) (b : ℕ) → is_ascii b ≡ true → alone name b ≡ Some b
known Big5 b y = rw y refl
known EucJp b y = rw y refl
known EucKr b y = rw y refl
known Gb18030 b y = rw y refl
known Gbk b y = rw y refl
known ShiftJis b y =
    let wide : nat_lt b 0x81 ≡ true = lt-ltb b 0x81 (omega (arith, ltb-true b 128 y)) in
    rw wide refl

pub ascii_right : (name : MultiByte) (b at : ℕ) (s : List ℕ) → is_ascii b ≡ true → multi_byte_wrong name Nothing at (b ∷ s) ≡ multi_byte_wrong name Nothing (at + 1) s
ascii_right name b at s y = rw (known name b y, none_after name b y) refl

pub of_multi : (name : MultiByte) (s : List ℕ) → multi_byte name Nothing s
    ≡ take (prefix_len is_ascii s) s ++ multi_byte name Nothing (drop (prefix_len is_ascii s) s)
of_multi name s = front (λ t. multi_byte name Nothing t) (λ b t y. ascii_first name b t y) s

pub none_held : (held : Held) → count held ≡ 0 → held ≡ Nothing
none_held Nothing e = refl
none_held (Lead a) e = absurd (omega (arith, e))
none_held (Jis0212 a) e = absurd (omega (arith, e))
none_held (Second a b) e = absurd (omega (arith, e))
none_held (Third a b c) e = absurd (omega (arith, e))

-- sixteen bytes at once
pub passed : (s : List ℕ) (i : ℕ) → i + 16 ≤ length s → 16 ≤ prefix_len is_ascii (take 16 (drop i s))
    → prefix_len is_ascii (drop i s) ≡ 16 + prefix_len is_ascii (drop (i + 16) s)
passed s i room whole =
    let long = length-chunk i 16 s room in
    ap (prefix_len is_ascii) (chunk-drop i 16 s)
    ∙ prefix_len-append is_ascii (take 16 (drop i s)) (drop (i + 16) s)
    ∙ cond-true _ _ _ (eq-eqb (prefix_len is_ascii (take 16 (drop i s))) (length (take 16 (drop i s))) (omega (arith, whole, long, prefix_len-le-length is_ascii (take 16 (drop i s)))))
    ∙ ap (λ n. n + prefix_len is_ascii (drop (i + 16) s)) long

pub hit : (s : List ℕ) (i : ℕ) → i + 16 ≤ length s → prefix_len is_ascii (take 16 (drop i s)) < 16
    → prefix_len is_ascii (drop i s) ≡ prefix_len is_ascii (take 16 (drop i s))
hit s i room short =
    let long = length-chunk i 16 s room in
    ap (prefix_len is_ascii) (chunk-drop i 16 s)
    ∙ prefix_len-append is_ascii (take 16 (drop i s)) (drop (i + 16) s)
    ∙ cond-false _ _ _ (ne_eqb (prefix_len is_ascii (take 16 (drop i s))) (length (take 16 (drop i s))) (λ e. omega (arith, e, long, short)))

pub twice_not : (s : List ℕ) → prefix_len (λ b. not (not (is_ascii b))) s ≡ prefix_len is_ascii s
twice_not [] = refl
twice_not (b ∷ s) = elim (cases_Bool (is_ascii b)) [
  | inl y ↦ rw (y, twice_not s) refl
  | inr n ↦ rw n refl
]

-- one step of a loop that writes a run at once
pub steps_on : (F : List ℕ → List ℕ) (new old run left rest whole : List ℕ) (n : ℕ) → new ≡ old ++ run → run ≡ take n rest → left ≡ drop n rest
    → n ≡ prefix_len is_ascii rest → F rest ≡ take (prefix_len is_ascii rest) rest ++ F (drop (prefix_len is_ascii rest) rest)
    → old ++ F rest ≡ whole → new ++ F left ≡ whole
steps_on F new old run left rest whole n written is_run is_left is_n parts given =
    ap (λ t. t ++ F left) (written ∙ ap (λ t. old ++ t) (is_run ∙ ap (λ k. take k rest) is_n))
    ∙ append_assoc old (take (prefix_len is_ascii rest) rest) (F left)
    ∙ ap (λ t. old ++ (take (prefix_len is_ascii rest) rest ++ F t)) (is_left ∙ ap (λ k. drop k rest) is_n)
    ∙ ap (λ t. old ++ t) (sym parts) ∙ given
