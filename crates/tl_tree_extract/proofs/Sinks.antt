-- Tokens of JSON that are taken one by one.
use Rattle.json.proofs.Printed.Strings.{escape_byte_plain}
use Rattle.json.proofs.Printed.Utf8.{IsUtf8-are_ascii, are_ascii}
use Rattle.json.specs.Print.{begins, ends, escape, print, print_from, token_text}
use Rattle.json.specs.Token.{Token}
use Rattle.json.specs.Written.{Written}
use Rattle.std.proofs.Common.{Bool, List, [], ap, append-nil, append_assoc, arith, false, get_or, length, refl, suc, sym, take, true, zero, ℕ, ◌+◌, ◌++◌, ◌<◌, ◌∙◌, ◌≡◌, ◌≤◌, ◌∷◌}
use Rattle.std.proofs.lemmas.Bool.{and_from, eqb-false, leb-false, lt-ltb, ltb-false, or_parts}
use Rattle.std.proofs.lemmas.Grind.{flat_map-append}
use Rattle.std.proofs.lemmas.List.{take_more}
use Rattle.std.specs.Prelude.{flat_map}
use Rattle.std.specs.Str.Lossy.{utf8_lossy}
use Rattle.tl_tree_extract.proofs.Lossy.{lossy_same}
use Rattle.tl_tree_extract.specs.Inner.Marked.{AreUnmarked, is_marked}
use Rattle.tl_tree_extract.specs.Inner.Sinks.{after, comma, key_or_string, quote_end, text_taken, written_taken}
use Rattle.tl_tree_extract.specs.declared.written_bytes.Written.TheVariants.{Json}

abbrev Taken : Type 0
Taken = List Token → List ℕ × List Token

-- One after the other

pub after_none : (x : Taken) → after [] x ≡ x
unfolding after
after_none x = refl

pub after_both : (a b : List Token) (x : Taken) → after b (after a x) ≡ after (a ++ b) x
unfolding after
after_both a b x = λ i more. x (sym (append_assoc a b more) i)

pub two : (x y z : Taken) (a b : List Token) → y ≡ after a x → z ≡ after b y → z ≡ after (a ++ b) x
two x y z a b e f = f ∙ ap (after b) e ∙ after_both a b x

pub three : (x y z w : Taken) (a b c : List Token) → y ≡ after a x → z ≡ after b y → w ≡ after c z → w ≡ after (a ++ (b ++ c)) x
three x y z w a b c e f g = two x y w a (b ++ c) e (two y z w b c f g)

pub four : (x y z w v : Taken) (a b c d : List Token) → y ≡ after a x → z ≡ after b y → w ≡ after c z → v ≡ after d w → v ≡ after (a ++ (b ++ (c ++ d))) x
four x y z w v a b c d e f g h = two x y v a (b ++ (c ++ d)) e (three y z w v b c d f g h)

pub step : (f : ℕ → List Token) (xs : List ℕ) (k d : ℕ) → k < length xs → flat_map f (take (k + 1) xs) ≡ flat_map f (take k xs) ++ f (get_or xs k d)
step f xs k d l =
    ap (flat_map f) (take_more xs k d l)
    ∙ flat_map-append f (take k xs) (get_or xs k d ∷ [])
    ∙ ap (λ v. flat_map f (take k xs) ++ v) (append-nil (f (get_or xs k d)))

-- The kit's writer

pub by_tokens : (old new : Written) (t : Token) → new.before ≡ old.before → new.tokens ≡ old.tokens ++ t ∷ [] → written_taken new ≡ after (t ∷ []) (written_taken old)
unfolding after
by_tokens old new t e f =
    (λ i more. (e i, f i ++ more)) ∙ (λ i more. (old.before, append_assoc old.tokens (t ∷ []) more i))

pub tokens_of : (old new : Written) (ts : List Token) → written_taken new ≡ after ts (written_taken old) → new.tokens ≡ old.tokens ++ ts
unfolding after
tokens_of old new ts e =
    sym (append-nil new.tokens) ∙ ap (λ (x : Taken). (x []).1) e ∙ ap (λ l. old.tokens ++ l) (append-nil ts)

-- Texts

pub print_one : (t : Token) → print (t ∷ []) ≡ token_text t
unfolding print_from
print_one t = append-nil (token_text t)

pub by_bytes : (o m n : List ℕ) (a b : Bool) (t : Token) → m ≡ o ++ comma a (begins t) → n ≡ m ++ token_text t → b ≡ ends t → text_taken n b ≡ after (t ∷ []) (text_taken o a)
unfolding after print_from
by_bytes o m n a b t p q r =
    let bytes : (more : List Token) → n ++ print_from b more ≡ o ++ print_from a (t ∷ more) = λ more.
    ap (λ v. v ++ print_from b more) q
    ∙ ap (λ v. (m ++ token_text t) ++ print_from v more) r
    ∙ append_assoc m (token_text t) (print_from (ends t) more)
    ∙ ap (λ v. v ++ (token_text t ++ print_from (ends t) more)) p
    ∙ append_assoc o (comma a (begins t)) (token_text t ++ print_from (ends t) more) in
    λ i more. (bytes more i, [])

pub text_of : (o n : List ℕ) (a b : Bool) (ts : List Token) → a ≡ false → text_taken n b ≡ after ts (text_taken o a) → n ≡ o ++ print ts
unfolding after print_from
text_of o n a b ts f e =
    sym (append-nil n)
    ∙ ap (λ (x : Taken). (x []).0) e
    ∙ ap (λ l. o ++ print_from a l) (append-nil ts)
    ∙ ap (λ v. o ++ print_from v ts) f

-- Bytes that a string has as they are

escape_as_is : (d : List ℕ) → ((k : ℕ) → k < length d → is_marked Json (get_or d k 0) ≡ false) → escape d ≡ d
escape_as_is [] h = refl
escape_as_is (x ∷ xs) h =
    let p = or_parts _ _ (h 0 (omega arith)) in
    let q = or_parts _ _ p.0 in
    let r = or_parts _ _ q.0 in
    let rest = escape_as_is xs (λ k l. h (suc k) (omega arith)) in
    λ i. escape_byte_plain x (eqb-false x 34 q.1) (eqb-false x 92 p.1) (ltb-false x 32 r.0) i ++ rest i

ascii_as_is : (d : List ℕ) → ((k : ℕ) → k < length d → is_marked Json (get_or d k 0) ≡ false) → are_ascii d ≡ true
ascii_as_is [] h = refl
ascii_as_is (x ∷ xs) h =
    let p = or_parts _ _ (h 0 (omega arith)) in
    let q = or_parts _ _ p.0 in
    let r = or_parts _ _ q.0 in
    let small : x < 128 = omega (arith, leb-false 128 x r.1) in
    and_from _ _ (lt-ltb x 128 small) (ascii_as_is xs (λ k l. h (suc k) (omega arith)))

plain_text : (is_key : Bool) (d : List ℕ) → escape d ≡ d → token_text (key_or_string is_key d) ≡ 34 ∷ (d ++ quote_end is_key)
plain_text true d e = ap (λ l. (34 ∷ (l ++ 34 ∷ [])) ++ 58 ∷ []) e ∙ ap (λ l. 34 ∷ l) (append_assoc d (34 ∷ []) (58 ∷ []))
plain_text false d e = ap (λ l. 34 ∷ (l ++ 34 ∷ [])) e

pub quoted_as_is : (is_key : Bool) (d : List ℕ) → AreUnmarked Json d 0 (length d) → token_text (key_or_string is_key (utf8_lossy d)) ≡ 34 ∷ (d ++ quote_end is_key)
quoted_as_is is_key d h =
    let each : (k : ℕ) → k < length d → is_marked Json (get_or d k 0) ≡ false = λ k l. h k (omega arith) l in
    ap (λ l. token_text (key_or_string is_key l)) (lossy_same d (IsUtf8-are_ascii d (ascii_as_is d each)))
    ∙ plain_text is_key d (escape_as_is d each)
