-- Parts against parts.
use Rattle.std.proofs.Common.{◌≡◌, ◌≤◌, ◌<◌, ℕ, ◌+◌, Bool, true, false, ◌&&◌, List, [], ◌∷◌, ◌++◌, length, take, drop, get_or, map, refl, ap, ap₂, sym, subst, ◌∙◌, append-nil, arith, true≢false}
use Rattle.std.proofs.lemmas.Bool.{and_parts}
use Rattle.std.proofs.lemmas.Grind.{flat_map-append}
use Rattle.std.proofs.lemmas.List.{append_cancel_left, drop-map, drop_all, drop_more, length-drop, map-append, take-append-drop, take-map}
use Rattle.std.proofs.lemmas.Slice.Eq.{bytes_eq-Decides}
use Rattle.std.specs.Str.{bytes_eq}
use Rattle.tl_html_tokens.specs.Characters.{characters_of}
use Rattle.tl_html_tokens.specs.declared.mode.Mode.{Mode}
use Rattle.tl_html_tokens.specs.declared.stage.TokenKind.{TokenKind}
use Rattle.tl_html_tokens.specs.declared.stage.TokenKind.TheVariants as kind
use Rattle.tl_patch.specs.Inner.Steps.{kind_number, mode_number}
use Rattle.tl_patch.proofs.Says.{kind_same, mode_same}
use Rattle.tl_patch_edit.specs.Inner.Parts.{IsStep, Part, Say, SayOtherwise, SaySame, Tells, are_quiet, characters_at, characters_in, is_alike, is_quiet_first, is_quiet_kind, is_text_kind, part_view, parts_view}
use Rattle.tl_patch_edit.specs.Sayings.{Saying, character}
use Rattle.tl_patch_edit.specs.declared.part.Part.{Part as CodePart}
use Rattle.tl_patch_edit.proofs.Lists.{length_view, more}
use Rattle.tl_patch_edit.proofs.Said.{Parted, same_tells, say_parted}
use Rattle.tl_patch_edit.proofs.Alike.{alike_tells, loud_say, loud_some, not_alike, not_empty, same_characters}

abbrev part : TokenKind → Mode → List ℕ → Part
part k m b = record { kind = k; mode = m; bytes = b }

pub same_part : (p q : CodePart) → kind_number p.kind ≡ kind_number q.kind → mode_number p.mode ≡ mode_number q.mode → p.bytes.now ≡ q.bytes.now → part_view p ≡ part_view q
same_part p q k m b =
    ap₂ (λ (x : TokenKind) (y : Mode). part x y p.bytes.now) (kind_same p.kind q.kind k) (mode_same p.mode q.mode m) ∙ ap (part q.kind q.mode) b

-- texts, and what says nothing

quiet_append : (xs ys : List Part) → are_quiet xs ≡ true → are_quiet ys ≡ true → are_quiet (xs ++ ys) ≡ true
quiet_append [] ys h k = k
quiet_append (x ∷ xs) ys h k =
    let both = and_parts (is_quiet_kind x.kind) (are_quiet xs) h in
    ap₂ (λ (u v : Bool). u && v) both.0 (quiet_append xs ys both.1 k)

pub quiet_more : (xs : List CodePart) (n : ℕ) (d : CodePart) → n < length xs → are_quiet (parts_view (take n xs)) ≡ true → is_quiet_kind (get_or xs n d).kind ≡ true →
    are_quiet (parts_view (take (n + 1) xs)) ≡ true
quiet_more xs n d l h k =
    ap are_quiet (more xs n d l) ∙ quiet_append (parts_view (take n xs)) (part_view (get_or xs n d) ∷ []) h (ap (λ v. v && true) k)

pub quiet_stops : (xs : List CodePart) (n : ℕ) (d : CodePart) → n < length xs → is_quiet_kind (get_or xs n d).kind ≡ false → is_quiet_first (parts_view (drop n xs)) ≡ false
quiet_stops xs n d l k = ap (λ (ys : List CodePart). is_quiet_first (parts_view ys)) (drop_more xs n d l) ∙ k

pub quiet_ends : (xs : List CodePart) (n : ℕ) → length xs ≤ n → is_quiet_first (parts_view (drop n xs)) ≡ false
quiet_ends xs n l = ap (λ (ys : List CodePart). is_quiet_first (parts_view ys)) (drop_all n xs l)

pub no_quiet : (xs : List CodePart) (n : ℕ) → n ≡ 0 → is_quiet_first (parts_view (drop n xs)) ≡ false → is_quiet_first (parts_view xs) ≡ false
no_quiet xs n e h = subst (λ k. is_quiet_first (parts_view (drop k xs)) ≡ false) e h

pub text_at : (k : TokenKind) (m : Mode) (b : List ℕ) → is_text_kind k ≡ true → characters_at k m b ≡ characters_of m b
text_at kind.Text m b h = refl
text_at _ m b h = absurd (true≢false (sym h))

pub no_text_at : (k : TokenKind) (m : Mode) (b : List ℕ) → is_text_kind k ≡ false → characters_at k m b ≡ []
no_text_at kind.Text m b h = absurd (true≢false h)
no_text_at kind.StartTag m b h = refl
no_text_at kind.EndTag m b h = refl
no_text_at kind.Comment m b h = refl
no_text_at kind.Doctype m b h = refl
no_text_at kind.Nothing m b h = refl

quiet_tells : (k : TokenKind) (m : Mode) (b : List ℕ) (ss : List Saying) → is_quiet_kind k ≡ true → Tells k m b ss → ss ≡ map character (characters_at k m b)
quiet_tells kind.Text m b ss e h = h
quiet_tells kind.Nothing m b ss e h = h
quiet_tells kind.StartTag m b ss e h = absurd (true≢false (sym e))
quiet_tells kind.EndTag m b ss e h = absurd (true≢false (sym e))
quiet_tells kind.Comment m b ss e h = absurd (true≢false (sym e))
quiet_tells kind.Doctype m b ss e h = absurd (true≢false (sym e))

quiet_say : (xs : List Part) (ss : List Saying) → are_quiet xs ≡ true → Say xs ss → ss ≡ map character (characters_in xs)
quiet_say [] ss e h = h
quiet_say (x ∷ xs) ss e h =
    let both = and_parts (is_quiet_kind x.kind) (are_quiet xs) e in
    h.2 ∙ ap₂ (λ (u v : List Saying). u ++ v) (quiet_tells x.kind x.mode x.bytes h.0 both.0 h.3) (quiet_say xs h.1 both.1 h.4)
    ∙ sym (map-append character (characters_at x.kind x.mode x.bytes) (characters_in xs))

pub characters_more : (xs : List CodePart) (n : ℕ) (d : CodePart) (now next : List ℕ) → n < length xs → now ≡ characters_in (parts_view (take n xs)) →
    next ≡ now ++ characters_at (get_or xs n d).kind (get_or xs n d).mode (get_or xs n d).bytes.now → next ≡ characters_in (parts_view (take (n + 1) xs))
characters_more xs n d now next l h e =
    let one : List ℕ = characters_at (get_or xs n d).kind (get_or xs n d).mode (get_or xs n d).bytes.now in
    e ∙ ap (λ u. u ++ one) h
    ∙ sym (ap characters_in (more xs n d l)
    ∙ flat_map-append (λ (p : Part). characters_at p.kind p.mode p.bytes) (parts_view (take n xs)) (part_view (get_or xs n d) ∷ [])
    ∙ ap (λ u. characters_in (parts_view (take n xs)) ++ u) (append-nil one))

-- steps

viewed_take : (xs : List CodePart) (n : ℕ) → take n (parts_view xs) ≡ parts_view (take n xs)
viewed_take xs n = take-map part_view n xs

taken_say : (xs : List CodePart) (n : ℕ) (ss : List Saying) → are_quiet (parts_view (take n xs)) ≡ true → Say (take n (parts_view xs)) ss → ss ≡ map character (characters_in (parts_view (take n xs)))
taken_say xs n ss e h = quiet_say (parts_view (take n xs)) ss e (subst (λ (zs : List Part). Say zs ss) (viewed_take xs n) h)

pub text_step : (xs ys : List CodePart) (m n : ℕ) → m ≤ length xs → n ≤ length ys → are_quiet (parts_view (take m xs)) ≡ true → are_quiet (parts_view (take n ys)) ≡ true → 0 < m + n →
    bytes_eq (characters_in (parts_view (take m xs))) (characters_in (parts_view (take n ys))) ≡ true → IsStep m n (parts_view xs) (parts_view ys)
text_step xs ys m n l k e f o c = record {
  within = omega (arith, length_view xs);
  others_within = omega (arith, length_view ys);
  moves = o;
  same = record {
    same = λ ss us h g.
        taken_say xs m ss e h
        ∙ ap (map character) ((bytes_eq-Decides (characters_in (parts_view (take m xs))) (characters_in (parts_view (take n ys)))).0 c)
        ∙ sym (taken_say ys n us f g);
  };
}

one_same : (p q : Part) (ss us : List Saying) → p ≡ q → Say (p ∷ []) ss → Say (q ∷ []) us → ss ≡ us
one_same p q ss us e h g =
    let k : Tells p.kind p.mode p.bytes g.0 = subst (λ (x : Part). Tells x.kind x.mode x.bytes g.0) (sym e) g.3 in
    h.2 ∙ ap₂ (λ (u v : List Saying). u ++ v) (same_tells p.kind p.mode p.bytes h.0 g.0 h.3 k) (h.4 ∙ sym g.4) ∙ sym g.2

pub same_step : (xs ys : List CodePart) (d e : CodePart) → 0 < length xs → 0 < length ys → part_view (get_or xs 0 d) ≡ part_view (get_or ys 0 e) → IsStep 1 1 (parts_view xs) (parts_view ys)
same_step [] ys d e l k h = absurd (omega arith)
same_step (x ∷ xs) [] d e l k h = absurd (omega arith)
same_step (x ∷ xs) (y ∷ ys) d e l k h = record {
  within = omega arith;
  others_within = omega arith;
  moves = omega arith;
  same = record { same = λ ss us f g. one_same (part_view x) (part_view y) ss us h f g };
}

alike_same : (p q : Part) (ss us : List Saying) → is_alike p.kind p q ≡ true → Say (p ∷ []) ss → Say (q ∷ []) us → ss ≡ us
alike_same p q ss us e h g =
    h.2 ∙ ap₂ (λ (u v : List Saying). u ++ v) (alike_tells p.kind p q h.0 g.0 e h.3 g.3) (h.4 ∙ sym g.4) ∙ sym g.2

pub alike_step : (xs ys : List CodePart) (d e : CodePart) → 0 < length xs → 0 < length ys →
    is_alike (get_or xs 0 d).kind (part_view (get_or xs 0 d)) (part_view (get_or ys 0 e)) ≡ true → IsStep 1 1 (parts_view xs) (parts_view ys)
alike_step [] ys d e l k h = absurd (omega arith)
alike_step (x ∷ xs) [] d e l k h = absurd (omega arith)
alike_step (x ∷ xs) (y ∷ ys) d e l k h = record {
  within = omega arith;
  others_within = omega arith;
  moves = omega arith;
  same = record { same = λ ss us f g. alike_same (part_view x) (part_view y) ss us h f g };
}

-- parts that don't say the same

parted : (xs : List CodePart) (k : ℕ) → take k (parts_view xs) ++ parts_view (drop k xs) ≡ parts_view xs
parted xs k = ap (λ (zs : List Part). take k (parts_view xs) ++ zs) (sym (drop-map part_view k xs)) ∙ take-append-drop k (parts_view xs)

parted_at : (xs : List CodePart) (n : ℕ) (ss : List Saying) → Say (parts_view xs) ss → Parted (take n (parts_view xs)) (parts_view (drop n xs)) ss
parted_at xs n ss h = say_parted (take n (parts_view xs)) (parts_view (drop n xs)) ss (subst (λ (zs : List Part). Say zs ss) (sym (parted xs n)) h)

pub text_otherwise : (xs ys : List CodePart) (m n : ℕ) → are_quiet (parts_view (take m xs)) ≡ true → are_quiet (parts_view (take n ys)) ≡ true →
    is_quiet_first (parts_view (drop m xs)) ≡ false → is_quiet_first (parts_view (drop n ys)) ≡ false →
    bytes_eq (characters_in (parts_view (take m xs))) (characters_in (parts_view (take n ys))) ≡ false → SayOtherwise (parts_view xs) (parts_view ys)
text_otherwise xs ys m n e f s t c = record {
  never = λ ss h g.
      let a = parted_at xs m ss h in
      let b = parted_at ys n ss g in
      let cs : List ℕ = characters_in (parts_view (take m xs)) in
      let ds : List ℕ = characters_in (parts_view (take n ys)) in
      let same : map character cs ++ a.second ≡ map character ds ++ b.second =
      ap (λ (u : List Saying). u ++ a.second) (sym (taken_say xs m a.first e a.say_first))
      ∙ sym a.is ∙ b.is
      ∙ ap (λ (u : List Saying). u ++ b.second) (taken_say ys n b.first f b.say_first) in
      let equal : cs ≡ ds = same_characters cs ds a.second b.second (loud_say (parts_view (drop m xs)) a.second s a.say_second) (loud_say (parts_view (drop n ys)) b.second t b.say_second) same in
      true≢false (sym ((bytes_eq-Decides cs ds).1 equal) ∙ c);
}

pub first_otherwise : (xs ys : List CodePart) (d e : CodePart) → 0 < length xs → 0 < length ys → is_quiet_first (parts_view xs) ≡ false → is_quiet_first (parts_view ys) ≡ false →
    is_alike (get_or xs 0 d).kind (part_view (get_or xs 0 d)) (part_view (get_or ys 0 e)) ≡ false → SayOtherwise (parts_view xs) (parts_view ys)
first_otherwise [] ys d e l k s t h = absurd (omega arith)
first_otherwise (x ∷ xs) [] d e l k s t h = absurd (omega arith)
first_otherwise (x ∷ xs) (y ∷ ys) d e l k s t h = record {
  never = λ ss f g. not_alike x.kind (part_view x) (part_view y) f.0 g.0 f.1 g.1 s t h f.3 g.3 (sym f.2 ∙ g.2);
}

loud_never : (x : CodePart) (xs : List CodePart) (ss : List Saying) → is_quiet_kind x.kind ≡ false → Say (parts_view (x ∷ xs)) ss → ss ≡ [] → ⊥
loud_never x xs ss s h e =
    let one = loud_some x.kind x.mode x.bytes.now h.0 s h.3 in
    not_empty one.0 h.1 (ap (λ (u : List Saying). u ++ h.1) (sym one.1) ∙ sym h.2 ∙ e)

pub none_otherwise : (xs ys : List CodePart) → 0 < length xs + length ys → (0 < length xs → 0 < length ys → ⊥) → is_quiet_first (parts_view xs) ≡ false → is_quiet_first (parts_view ys) ≡ false →
    SayOtherwise (parts_view xs) (parts_view ys)
none_otherwise [] [] l n s t = absurd (omega arith)
none_otherwise [] (y ∷ ys) l n s t = record { never = λ ss h g. loud_never y ys ss t g h }
none_otherwise (x ∷ xs) [] l n s t = record { never = λ ss h g. loud_never x xs ss s h g }
none_otherwise (x ∷ xs) (y ∷ ys) l n s t = absurd (n (omega arith) (omega arith))

-- one step after the other

joined_say : (xs ys vs ws : List Part) → SaySame xs vs → SaySame ys ws → SaySame (xs ++ ys) (vs ++ ws)
joined_say xs ys vs ws h k = record {
  same = λ ts us f g.
      let a = say_parted xs ys ts f in
      let b = say_parted vs ws us g in
      a.is ∙ ap₂ (λ (u v : List Saying). u ++ v) (h.same a.first b.first a.say_first b.say_first) (k.same a.second b.second a.say_second b.say_second) ∙ sym b.is;
}

abbrev pub Same : List CodePart → List CodePart → Type 0
Same xs ys = SaySame (parts_view xs) (parts_view ys)

pub same_more : (xs ys : List CodePart) (k j : ℕ) → IsStep k j (parts_view xs) (parts_view ys) → Same (drop k xs) (drop j ys) → Same xs ys
same_more xs ys k j s h =
    subst (λ (zs : List Part). SaySame zs (parts_view ys)) (parted xs k)
    (subst (λ (zs : List Part). SaySame (take k (parts_view xs) ++ parts_view (drop k xs)) zs) (parted ys j)
    (joined_say _ _ _ _ s.same h))

abbrev pub Otherwise : List CodePart → List CodePart → Type 0
Otherwise xs ys = SayOtherwise (parts_view xs) (parts_view ys)

pub otherwise_more : (xs ys : List CodePart) (k j : ℕ) → IsStep k j (parts_view xs) (parts_view ys) → Otherwise (drop k xs) (drop j ys) → Otherwise xs ys
otherwise_more xs ys k j s o = record {
  never = λ ss h g.
      let a = parted_at xs k ss h in
      let b = parted_at ys j ss g in
      let first : a.first ≡ b.first = (s.same).same a.first b.first a.say_first b.say_first in
      let second : a.second ≡ b.second = append_cancel_left a.first a.second b.second (sym a.is ∙ b.is ∙ ap (λ (u : List Saying). u ++ b.second) (sym first)) in
      o.never b.second (subst (λ (u : List Saying). Say (parts_view (drop k xs)) u) second a.say_second) b.say_second;
}

-- what is left becomes less
pub step_smaller : (xs ys : List CodePart) (k j : ℕ) → IsStep k j (parts_view xs) (parts_view ys) → length (drop k xs) + length (drop j ys) < length xs + length ys
step_smaller xs ys k j s =
    let a = length_view xs in
    let b = length_view ys in
    let l = s.within in
    let m = s.others_within in
    let o = s.moves in
    omega (arith, length-drop k xs, length-drop j ys)

none_same : (xs ys : List CodePart) → xs ≡ [] → ys ≡ [] → Same xs ys
none_same xs ys a b =
    subst (λ (zs : List CodePart). Same zs ys) (sym a) (subst (λ (zs : List CodePart). Same [] zs) (sym b) (record { same = λ ts us f g. f ∙ sym g }))

empty : (xs : List CodePart) → length xs ≡ 0 → xs ≡ []
empty [] e = refl
empty (x ∷ xs) e = absurd (omega arith)

pub same_end : (xs ys : List CodePart) → length xs ≡ 0 → length ys ≡ 0 → Same xs ys
same_end xs ys l k = none_same xs ys (empty xs l) (empty ys k)
