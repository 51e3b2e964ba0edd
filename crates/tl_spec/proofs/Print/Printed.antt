-- What is printed is read again.
use Rattle.std.proofs.Common.{◌≡◌, ℕ, ◌||◌, ◌&&◌, ◌==◌, Bool, true, false, not, List, [], ◌∷◌, ◌++◌, drop, Option, Some, None, refl, ap, sym, ◌∙◌, if◌then◌else◌, inl, inr, ◌⊎◌, append_assoc}
use Rattle.std.specs.List.{list_all}
use Rattle.std.proofs.Math.Bool.{or-true}
use Rattle.tl_spec.specs.Lex.Attribute.{Pair, attribute, attributes, optional_value, skip_blanks, skip_end}
use Rattle.tl_spec.specs.Lex.ByteClass.{is_blank, is_closing, is_name}
use Rattle.tl_spec.specs.Lex.Runs.{drop_while}
use Rattle.tl_spec.specs.Lex.Token.{End, Start, Text, token_after_attributes, markup, next_token, start_tag}
use Rattle.tl_spec.proofs.Lex.Bytes.{Stops, drop_while-append, drop_while-no, drop_while-yes, take_while-append}
use Rattle.tl_spec.proofs.Lex.Names.{name-ident, name-not, name-not-blank, no_name}
use Rattle.tl_spec.proofs.Lex.Steps.{attributes-closing, attributes-more}

-- A key as it is printed: a nonempty run that `/` doesn't begin
abbrev pub IsWord : List ℕ → Type 0
IsWord [] = ⊥
IsWord (b ∷ w) = (is_name b ≡ true) × (is_closing b ≡ false) × (list_all is_name w ≡ true)

abbrev pub no_quote : List ℕ → Bool
no_quote v = list_all (λ c. not (c == 0x22)) v

abbrev pub IsValue : Option (List ℕ) → Type 0
IsValue None = Unit {0}
IsValue (Some v) = no_quote v ≡ true

abbrev pub shown_value : Option (List ℕ) → List ℕ
shown_value None = []
shown_value (Some v) = 0x3D ∷ 0x22 ∷ (v ++ 0x22 ∷ [])

abbrev pub shown_pair : Pair → List ℕ
shown_pair p = 0x20 ∷ (p.0 ++ shown_value p.1)

abbrev pub shown_pairs : List Pair → List ℕ
shown_pairs [] = []
shown_pairs (p ∷ ps) = shown_pair p ++ shown_pairs ps

abbrev pub ArePairs : List Pair → Type 0
ArePairs [] = Unit {0}
ArePairs (p ∷ ps) = IsWord p.0 × IsValue p.1 × ArePairs ps

-- a tag's name is a word, except that a tag without attributes may have the empty name
abbrev pub IsTagName : List ℕ → List Pair → Type 0
IsTagName [] [] = Unit {0}
IsTagName [] (p ∷ ps) = ⊥
IsTagName (b ∷ w) pairs = IsWord (b ∷ w)

-- What may stand after a printed attribute: the end of the tag, or a blank and a word
abbrev pub Follows : List ℕ → Type 0
Follows s = ((r : List ℕ) × (s ≡ 0x3E ∷ r)) ⊎ ((c : ℕ) × (r : List ℕ) × (is_name c ≡ true) × (is_closing c ≡ false) × (s ≡ 0x20 ∷ c ∷ r))

pub follows_pairs : (ps : List Pair) (r : List ℕ) → ArePairs ps → Follows (shown_pairs ps ++ 0x3E ∷ r)
follows_pairs [] r h = inl (r, refl)
follows_pairs (([], v) ∷ ps) r h = absurd h.0
follows_pairs ((b ∷ w, v) ∷ ps) r h = inr (b, _, h.0.0, h.0.1, refl)

-- blanks are passed over once
pub blanks_once : (s : List ℕ) → Follows s → skip_blanks (skip_blanks s) ≡ skip_blanks s
blanks_once s = elim [
  | inl f ↦ rw f.1 refl
  | inr f ↦ let stays = drop_while-no is_blank (f.0 ∷ f.1) (name-not-blank f.0 f.2) in
      let once : skip_blanks s ≡ f.0 ∷ f.1 = ap skip_blanks f.4 ∙ drop_while-yes is_blank 0x20 (f.0 ∷ f.1) refl ∙ stays in
      ap skip_blanks once ∙ stays ∙ sym once
]

-- after a key without a value
pub none_after : (s : List ℕ) → Follows s → ((optional_value (skip_blanks s)).0 ≡ None) × (skip_end (optional_value (skip_blanks s)).1 ≡ skip_blanks s)
none_after s = elim [
  | inl f ↦ rw f.1 (refl, refl)
  | inr f ↦ let stays = drop_while-no is_blank (f.0 ∷ f.1) (name-not-blank f.0 f.2) in
      let once : skip_blanks s ≡ f.0 ∷ f.1 = ap skip_blanks f.4 ∙ drop_while-yes is_blank 0x20 (f.0 ∷ f.1) refl ∙ stays in
      let val : optional_value (f.0 ∷ f.1) ≡ (None, f.0 ∷ f.1) = rw (name-not f.0 0x3D f.2 refl) refl in
      let pass : skip_end (f.0 ∷ f.1) ≡ f.0 ∷ f.1 = rw (name-ident f.0 f.2) (rw or-true refl) in
      rw once (rw val (refl, pass))
]

pub stops_key : (s : List ℕ) → Follows s → Stops is_name s
stops_key s = elim [ inl f ↦ rw f.1 (no_name 0x3E refl) | inr f ↦ rw f.4 (no_name 0x20 refl) ]

pub word_name : (w : List ℕ) → IsWord w → list_all is_name w ≡ true
word_name [] h = absurd h
word_name (b ∷ w) h = rw h.0 h.2

-- an attribute, and what stands after it and blanks
abbrev pub on_to_next : Pair × List ℕ → Pair × List ℕ
on_to_next a = (a.0, skip_blanks a.1)

-- a printed attribute is read again
pub attribute_again : (w : List ℕ) (v : Option (List ℕ)) (s : List ℕ) → IsWord w → IsValue v → Follows s →
    on_to_next (attribute (w ++ (shown_value v ++ s))) ≡ ((w, v), skip_blanks s)
attribute_again w None s word_of val f =
    let key = take_while-append is_name w s (word_name w word_of) (stops_key s f) in
    let after = none_after s f in
    let rest : skip_blanks (skip_end (optional_value (skip_blanks s)).1) ≡ skip_blanks s = ap skip_blanks after.1 ∙ blanks_once s f in
    rw (drop_while-append is_name w s (word_name w word_of) (stops_key s f)) (λ i. ((key i, after.0 i), rest i))
attribute_again w (Some v) s word_of val f =
    let key = take_while-append is_name w (0x3D ∷ 0x22 ∷ (v ++ 0x22 ∷ s)) (word_name w word_of) (no_name 0x3D refl) in
    let before = take_while-append (λ c. not (c == 0x22)) v (0x22 ∷ s) val refl in
    let rest : skip_blanks (skip_end (drop_while (λ c. not (c == 0x22)) (v ++ 0x22 ∷ s))) ≡ skip_blanks s = rw (drop_while-append (λ c. not (c == 0x22)) v (0x22 ∷ s) val refl) refl in
    rw append_assoc (rw (drop_while-append is_name w (0x3D ∷ 0x22 ∷ (v ++ 0x22 ∷ s)) (word_name w word_of) (no_name 0x3D refl)) (λ i. ((key i, Some (before i)), rest i)))

-- so are all of a tag's
pub attributes_again : (ps : List Pair) (r : List ℕ) → ArePairs ps → attributes (skip_blanks (shown_pairs ps ++ 0x3E ∷ r)) ≡ (ps, 0x3E ∷ r)
attributes_again [] r h = attributes-closing 0x3E r refl
attributes_again (([], v) ∷ ps) r h = absurd h.0
attributes_again ((b ∷ w, v) ∷ ps) r h =
    let s : List ℕ = shown_pairs ps ++ 0x3E ∷ r in
    let rest : List ℕ = w ++ (shown_value v ++ s) in
    let blank : skip_blanks (0x20 ∷ b ∷ rest) ≡ b ∷ rest = drop_while-yes is_blank 0x20 (b ∷ rest) refl ∙ drop_while-no is_blank (b ∷ rest) (name-not-blank b h.0.0) in
    let one = attribute_again (b ∷ w) v s h.0 h.1 (follows_pairs ps r h.2) in
    let more = attributes_again ps r h.2 in
    let step = attributes-more b rest h.0.1 in
    let shape : shown_pairs ((b ∷ w, v) ∷ ps) ++ 0x3E ∷ r ≡ 0x20 ∷ b ∷ rest = ap (λ t. 0x20 ∷ b ∷ t) (append_assoc (w ++ shown_value v) (shown_pairs ps) (0x3E ∷ r) ∙ append_assoc w (shown_value v) s) in
    ap (λ t. attributes (skip_blanks t)) shape ∙ ap attributes blank ∙ step
    ∙ ap (λ (n : Pair × List ℕ). (n.0 ∷ (attributes n.1).0, (attributes n.1).1)) one
    ∙ ap (λ (found : List Pair × List ℕ). ((b ∷ w, v) ∷ found.0, found.1)) more

pub or_left : (x y : Bool) → (x || y) ≡ false → x ≡ false
or_left true y h = h
or_left false y h = refl

pub if_no : {A : Type 0} (b : Bool) (x y : A) → b ≡ false → (if b then x else y) ≡ y
if_no b x y e = rw e refl

pub stops_name : (pairs : List Pair) (r : List ℕ) → Stops is_name (shown_pairs pairs ++ 0x3E ∷ r)
stops_name [] r = no_name 0x3E refl
stops_name (p ∷ ps) r = no_name 0x20 refl

pub start_again : (name : List ℕ) (pairs : List Pair) (r : List ℕ) → IsTagName name pairs → ArePairs pairs →
    next_token (0x3C ∷ (name ++ (shown_pairs pairs ++ 0x3E ∷ r))) ≡ Some (Start name pairs false, r)
start_again [] [] r n h = refl
start_again [] (p ∷ ps) r n h = absurd n
start_again (b ∷ w) pairs r n h =
    let s : List ℕ = shown_pairs pairs ++ 0x3E ∷ r in
    let stops = stops_name pairs r in
    let blank : skip_blanks (b ∷ (w ++ s)) ≡ b ∷ (w ++ s) = drop_while-no is_blank (b ∷ (w ++ s)) (name-not-blank b n.0) in
    let name_is = take_while-append is_name (b ∷ w) s (word_name (b ∷ w) n) stops in
    let after = drop_while-append is_name (b ∷ w) s (word_name (b ∷ w) n) stops in
    let all = ap (λ t. attributes (skip_blanks t)) after ∙ attributes_again pairs r h in
    let tag_is : start_tag (b ∷ (w ++ s)) ≡ (Start (b ∷ w) pairs false, r) =
    (λ i. token_after_attributes (name_is i) (all i).0 (all i).1) in
    let mark : markup (0x3C ∷ b ∷ (w ++ s)) (b ∷ (w ++ s)) ≡ (Start (b ∷ w) pairs false, r) =
    if_no (b == 0x2F) _ _ (or_left (b == 0x2F) (b == 0x3E) n.1) ∙ if_no (b == 0x21) _ _ (name-not b 0x21 n.0 refl) ∙ tag_is in
    ap (λ t. Some (markup (0x3C ∷ b ∷ (w ++ s)) t)) blank ∙ ap (λ found. Some found) mark

-- a text is cut by `<` or its end
pub text_again : (b : ℕ) (w r : List ℕ) → list_all (λ c. not (c == 0x3C)) (b ∷ w) ≡ true → Stops (λ c. not (c == 0x3C)) r →
    next_token ((b ∷ w) ++ r) ≡ Some (Text (b ∷ w), r)
text_again b w r h stops =
    let is = take_while-append (λ c. not (c == 0x3C)) (b ∷ w) r h stops in
    let after = drop_while-append (λ c. not (c == 0x3C)) (b ∷ w) r h stops in
    let step : (v : Bool) → (b == 0x3C) ≡ v → (not v && list_all (λ c. not (c == 0x3C)) w) ≡ true → next_token ((b ∷ w) ++ r) ≡ Some (Text (b ∷ w), r) = elim [
      | true ↦ λ e h. cc
      | false ↦ λ e h. ap (λ found. Some found) (if_no (b == 0x3C) _ _ e) ∙ (λ i. Some (Text (is i), after i))
    ] in
    step (b == 0x3C) refl h

-- an end tag as it is printed
pub end_again : (name r : List ℕ) → list_all (λ c. not (c == 0x3E)) name ≡ true → next_token (0x3C ∷ 0x2F ∷ (name ++ 0x3E ∷ r)) ≡ Some (End name, r)
end_again name r h =
    let is = take_while-append (λ c. not (c == 0x3E)) name (0x3E ∷ r) h refl in
    let after = drop_while-append (λ c. not (c == 0x3E)) name (0x3E ∷ r) h refl in
    (λ i. Some (End (is i), drop 1 (after i)))
