-- A tag without a key: of its attributes those with another key are read, and nothing else.
use Rattle.std.proofs.Common.{◌≡◌, ◌≤◌, ◌<◌, ℕ, zero, suc, ◌-◌, ◌+◌, Bool, true, false, ◌||◌, ◌==◌, List, [], ◌∷◌, ◌++◌, length, take, drop, get_or, map, refl, ap, ap₂, sym, subst, ◌∙◌, inl, inr, append_assoc, arith, if◌then◌else◌}
use Rattle.std.specs.Prelude.{⊤, codes, nat_lt, slice_index}
use Rattle.std.specs.List.{All, filter}
use Rattle.std.proofs.lemmas.Bool.{cases_Bool, cases_lt, le-leb, lt-ltb, ltb-true}
use Rattle.std.proofs.lemmas.List.{drop-drop, drop_more}
use Rattle.std.proofs.lemmas.List.Elements.{All-cons}
use Rattle.tl_html_spec.specs.HtmlTokenizer.{HtmlAttribute, OpenTag}
use Rattle.tl_html_parts.specs.Bytes.{is_space}
use Rattle.tl_patch_spec.specs.Splices.{Splice, are_ordered, with_splices_from}
use Rattle.tl_patch_spec.proofs.Inside.{after_value, ended, inner_text}
use Rattle.tl_patch.specs.Inner.Cuts.{Cutting, cut_from, cut_if, cut_put, cut_splice, cuts_of, first_of, follow_at, free_after, space_before, space_start}
use Rattle.tl_patch.specs.AttributePlaces.{is_named, key_at, part}
use Rattle.tl_patch.specs.StartTags.{IsCut, IsCutPut}
use Rattle.tl_patch.specs.declared.cut.Follow.{Follow}
use Rattle.tl_patch.specs.declared.stage.Place.{Place}
use Rattle.tl_patch.proofs.Attributes.{AreAttributes, IsAttribute, keys_of}
use Rattle.tl_patch.proofs.Gone.{EndsIn, Gone, Instead, gone, kept, kept_free, part_both, part_first, part_none, part_rest}
use Rattle.tl_patch.proofs.Keys.{others_of}

-- lists

pub first_at : (n : ℕ) (xs : List ℕ) (b : ℕ) (y : List ℕ) → drop n xs ≡ b ∷ y → (slice_index xs n ≡ b) × (n < length xs)
first_at zero [] b y e = absurd (never b y e)
  where
    never : (b : ℕ) (y : List ℕ) → [] ≡ b ∷ y → ⊥
    never b y e = cc
first_at (suc n) [] b y e = absurd (never b y e)
  where
    never : (b : ℕ) (y : List ℕ) → [] ≡ b ∷ y → ⊥
    never b y e = cc
first_at zero (x ∷ xs) b y e = (cc, omega arith)
first_at (suc n) (x ∷ xs) b y e = let h = first_at n xs b y e in (h.0, (let l : n < length xs = h.1 in omega arith))

pub space_low : (n from : ℕ) (rest : List ℕ) → (from ≤ space_before n from rest) × (space_before n from rest ≤ from + n)
space_low zero from rest = (omega arith, omega arith)
space_low (suc n) from rest = by_test (is_space (slice_index rest (from + n))) (space_low n from rest)
  where
    by_test : (c : Bool) → (from ≤ space_before n from rest) × (space_before n from rest ≤ from + n) →
        (from ≤ (if c then space_before n from rest else from + suc n)) × ((if c then space_before n from rest else from + suc n) ≤ from + suc n)
    by_test true h = (h.0, (let l : space_before n from rest ≤ from + n = h.1 in omega arith))
    by_test false h = (omega arith, omega arith)

put_is : (last space start first : ℕ) (free : Bool) → IsCutPut (cut_put last space start first free)
put_is last space start first free = elim (cases_Bool free) [
  | inr n ↦ subst (λ c. IsCutPut (cut_put last space start first c)) (sym n) (inr (inr refl))
  | inl y ↦ subst (λ c. IsCutPut (cut_put last space start first c)) (sym y) (by_first (first == 62) (nat_lt last space) (is_space first) (nat_lt space start))
]
  where
    by_first : (a b c d : Bool) → IsCutPut (if a then if b then codes " " else [] else if c || d then [] else codes " ")
    by_first true true c d = inr (inl refl)
    by_first true false c d = inl refl
    by_first false b true d = inl refl
    by_first false b false true = inl refl
    by_first false b false false = inr (inl refl)

module _ (t : OpenTag) (rest : List ℕ) (closes returned : Bool) (more : List HtmlAttribute) (key : List ℕ) where
  abbrev pub Sorted : ℕ → List (Splice ℕ) → Type 0
  Sorted at [] = ⊤
  Sorted at (s ∷ ss) = (at ≤ s.from) × (s.from ≤ s.until) × (s.until ≤ length rest) × Sorted s.until ss

  pub ordered : (at : ℕ) (ss : List (Splice ℕ)) → Sorted at ss → are_ordered at (length rest) ss ≡ true
  ordered at [] h = refl
  ordered at (s ∷ ss) h =
      let a = le-leb at s.from h.0 in
      let b = le-leb s.from s.until h.1 in
      let c = le-leb s.until (length rest) h.2 in
      rw (a, b, c) (ordered s.until ss h.3)

  sooner : (last at : ℕ) (ss : List (Splice ℕ)) → last ≤ at → Sorted at ss → Sorted last ss
  sooner last at [] l h = tt
  sooner last at (s ∷ ss) l h = (let m : at ≤ s.from = h.0 in omega arith, h.1, h.2, h.3)

  abbrev text_from : ℕ → List (Splice ℕ) → List ℕ
  text_from at ss = with_splices_from at (drop at rest) ss

  dropped : (at until : ℕ) → at ≤ until → drop (until - at) (drop at rest) ≡ drop until rest
  dropped at until l = let o : at + (until - at) ≡ until = omega arith in drop-drop (until - at) at rest ∙ ap (λ k. drop k rest) o

  moved : (last at : ℕ) (ss : List (Splice ℕ)) → last ≤ at → Sorted at ss → text_from last ss ≡ part last at rest ++ text_from at ss
  moved last at [] l h = part_rest last at rest l
  moved last at (s ∷ ss) l h =
      let m : at ≤ s.from = h.0 in
      let n : s.from ≤ s.until = h.1 in
      ap₂ (λ (xs ys : List ℕ). xs ++ (s.put ++ with_splices_from s.until ys ss))
      (part_both last at s.from rest l m) (dropped last s.until (omega arith) ∙ sym (dropped at s.until (omega arith)))
      ∙ append_assoc (part last at rest) (part at s.from rest) (s.put ++ with_splices_from s.until (drop (s.until - at) (drop at rest)) ss)

  cut_text : (last from until : ℕ) (put : List ℕ) (ss : List (Splice ℕ)) → last ≤ until →
      text_from last (record { from = from; until = until; put = put } ∷ ss) ≡ part last from rest ++ (put ++ text_from until ss)
  cut_text last from until put ss l = ap (λ (ys : List ℕ). part last from rest ++ (put ++ with_splices_from until ys ss)) (dropped last until l)

  -- what comes of the rest of a tag from a place on
  pub record Left (last : ℕ) (c : Cutting) (xs : List HtmlAttribute) : Type 0 where
    pub later : List ℕ
    pub head : text_from last c.splices ≡ (c.follow).first ∷ later
    pub free : (c.follow).is_free ≡ free_after (text_from last c.splices)
    pub instead : Instead rest closes returned last (text_from last c.splices) xs
    pub sorted : Sorted last c.splices
    pub put : All IsCut c.splices

  none_put : All IsCut []
  none_put k d l = absurd (omega arith)

  nothing_read : (xs : List HtmlAttribute) → inner_text after_value false [] ≡ ended closes xs returned [] → ⊥
  nothing_read xs e = cc

  untouched : (last : ℕ) (text : List ℕ) (back : List HtmlAttribute) → drop last rest ≡ text → EndsIn rest closes returned text back → Left last (record { splices = []; follow = follow_at rest last }) back
  untouched last [] back d e = absurd (nothing_read back e)
  untouched last (b ∷ y) back d e = record {
    later = y;
    head = d ∙ ap (λ c. c ∷ y) (sym (first_at last rest b y d).0);
    free = refl;
    instead = record { read = ap (inner_text after_value false) d ∙ e; space = λ o. o; alone = λ o. o; end = λ o. o };
    sorted = tt;
    put = none_put;
  }

  first_there : (last at : ℕ) (text : List ℕ) → last < at → at ≤ length rest → (y : List ℕ) × (part last at rest ++ text ≡ slice_index rest last ∷ y)
  first_there last at text l m =
      let b : ℕ = get_or rest last 0 in
      let y : List ℕ = drop (last + 1) rest in
      let e : drop last rest ≡ b ∷ y = drop_more rest last 0 (omega arith) in
      (take (at - suc last) y ++ text, ap (λ zs. zs ++ text) (part_first last at rest b y l e ∙ ap (λ c. c ∷ take (at - suc last) y) (sym (first_at last rest b y e).0)))

  left_if : (b : Bool) (last : ℕ) (done : List Place) (p : Place) (c : Cutting) (xs : List HtmlAttribute) (x : IsAttribute t rest closes returned more last done p) →
      Left p.end c xs → Left last (cut_if b rest last p c) (if b then xs else (key_at rest p, x.old) ∷ xs)
  left_if true last done p c xs x h =
      let s : ℕ = p.key.start in
      let f : Follow = c.follow in
      let space : ℕ = space_start rest last s in
      let l : last ≤ s = (x.gap).0.0 in
      let o : last + (s - last) ≡ s = omega arith in
      let m = space_low (s - last) last rest in
      let high : space ≤ s = subst (λ n. space ≤ n) o m.1 in
      let new : List ℕ = text_from p.end c.splices in
      let q : IsCutPut (cut_put last space s f.first f.is_free) = put_is last space s f.first f.is_free in
      let free : f.is_free ≡ free_after (f.first ∷ h.later) = h.free ∙ ap free_after h.head in
      let there : Instead rest closes returned p.end (f.first ∷ h.later) xs = subst (λ zs. Instead rest closes returned p.end zs xs) h.head h.instead in
      let g : Gone t rest closes returned more last space p f.first f.is_free (f.first ∷ h.later) xs =
      subst (λ v. Gone t rest closes returned more last space p f.first v (f.first ∷ h.later) xs) (sym free) (gone t rest closes returned more last space done p f.first h.later xs x m.0 high there) in
      let from : ℕ = cut_from space s f.first f.is_free in
      let put : List ℕ = cut_put last space s f.first f.is_free in
      let low : last ≤ from = g.low in
      let top : from ≤ s = g.high in
      let k : s < p.end = x.key_order in
      let text : text_from last (cut_splice rest last p f ∷ c.splices) ≡ part last from rest ++ (put ++ (f.first ∷ h.later)) =
      cut_text last from p.end put c.splices (omega arith) ∙ ap (λ zs. part last from rest ++ (put ++ zs)) h.head in
      let head = head_of last from put f.first h.later low (let w : p.end ≤ length rest = x.inside in omega arith) in
      record {
        later = head.0;
        head = text ∙ head.1;
        free = sym (ap free_after text ∙ g.is_free);
        instead = subst (λ zs. Instead rest closes returned last zs xs) (sym text) g.instead;
        sorted = (low, omega arith, x.inside, h.sorted);
        put = All-cons IsCut (cut_splice rest last p f) c.splices q h.put;
      }
    where
      lt_same : (n : ℕ) → nat_lt n n ≡ false
      lt_same n = elim (cases_Bool (nat_lt n n)) [
        | inl y ↦ absurd (let l : n < n = ltb-true n n y in omega arith)
        | inr m ↦ m
      ]

      put_first : (put : List ℕ) (first : ℕ) (y : List ℕ) → (z : List ℕ) × (put ++ (first ∷ y) ≡ first_of put first ∷ z)
      put_first [] first y = (y, refl)
      put_first (b ∷ put) first y = (put ++ (first ∷ y), refl)

      head_of : (last from : ℕ) (put : List ℕ) (first : ℕ) (y : List ℕ) → last ≤ from → from ≤ length rest →
          (z : List ℕ) × (part last from rest ++ (put ++ (first ∷ y)) ≡ (if nat_lt last from then slice_index rest last else first_of put first) ∷ z)
      head_of last from put first y l m = elim (cases_lt last from) [
        | inl k ↦ (
            let h = first_there last from (put ++ (first ∷ y)) k m in
            (h.0, h.1 ∙ ap (λ (v : Bool). (if v then slice_index rest last else first_of put first) ∷ h.0) (sym (lt-ltb last from k))))
        | inr k ↦ (
            let same : from ≡ last = omega arith in
            let z = put_first put first y in (
              z.0,
              ap (λ n. part last n rest ++ (put ++ (first ∷ y))) same ∙ ap (λ zs. zs ++ (put ++ (first ∷ y))) (part_none last rest) ∙ z.1
                  ∙ ap (λ (v : Bool). (if v then slice_index rest last else first_of put first) ∷ z.0) (sym (ap (λ n. nat_lt last n) same ∙ lt_same last)),
            ))
      ]
  left_if false last done p c xs x h =
      let s : ℕ = p.key.start in
      let l : last ≤ s = (x.gap).0.0 in
      let k : s < p.end = x.key_order in
      let new : List ℕ = text_from p.end c.splices in
      let text : text_from last c.splices ≡ part last p.end rest ++ new = moved last p.end c.splices (omega arith) h.sorted in
      let head = first_there last p.end new (omega arith) x.inside in
      record {
        later = head.0;
        head = text ∙ head.1;
        free = sym (ap free_after text ∙ kept_free t rest closes returned more last done p new x);
        instead = subst (λ zs. Instead rest closes returned last zs ((key_at rest p, x.old) ∷ xs)) (sym text) (kept t rest closes returned more last done p new xs x h.instead);
        sorted = sooner last p.end c.splices (omega arith) h.sorted;
        put = h.put;
      }

  same_back : (xs ys : List HtmlAttribute) → ended closes xs returned [] ≡ ended closes ys returned [] → xs ≡ ys
  same_back xs ys e = cc

  back_is : (last : ℕ) (done : List Place) (p : Place) (back : List HtmlAttribute) (x : IsAttribute t rest closes returned more last done p) → EndsIn rest closes returned (drop last rest) back →
      back ≡ (key_at rest p, x.old) ∷ x.back
  back_is last done p back x e =
      let l : last ≤ p.key.start = (x.gap).0.0 in
      let k : p.key.start < p.end = x.key_order in
      let same : Instead rest closes returned p.end (drop p.end rest) x.back = record { read = x.left; space = λ o. o; alone = λ o. o; end = λ o. o } in
      let h = kept t rest closes returned more last done p (drop p.end rest) x.back x same in
      same_back back ((key_at rest p, x.old) ∷ x.back) (sym e ∙ ap (inner_text after_value false) (part_rest last p.end rest (omega arith)) ∙ h.read)

  others_if : (b : Bool) (p : Place) (old : List ℕ) (xs : List HtmlAttribute) → is_named rest key p ≡ b → (if b then others_of key xs else (key_at rest p, old) ∷ others_of key xs) ≡ others_of key ((key_at rest p, old) ∷ xs)
  others_if true p old xs e = rw (e, filter) refl
  others_if false p old xs e = rw (e, filter) refl

  none_back : (back : List HtmlAttribute) → keys_of back ≡ [] → others_of key back ≡ back
  none_back [] e = refl
  none_back (x ∷ back) e = absurd (never (keys_of back) e)
    where
      never : (ks : List (List ℕ)) → x.0 ∷ ks ≡ [] → ⊥
      never ks e = cc

  later_keys : (k : List ℕ) (old : List ℕ) (back xs : List HtmlAttribute) (ps : List Place) (p : Place) → back ≡ (k, old) ∷ xs → keys_of back ≡ key_at rest p ∷ map (key_at rest) ps → keys_of xs ≡ map (key_at rest) ps
  later_keys k old back xs ps p e f = tail_same k (key_at rest p) (keys_of xs) (map (key_at rest) ps) (sym (ap keys_of e) ∙ f)
    where
      tail_same : (a b : List ℕ) (xs ys : List (List ℕ)) → a ∷ xs ≡ b ∷ ys → xs ≡ ys
      tail_same a b xs ys e = cc

  pub left : (ps : List Place) (last : ℕ) (done : List Place) (back : List HtmlAttribute) → AreAttributes t rest closes returned more last done ps → EndsIn rest closes returned (drop last rest) back →
      keys_of back ≡ map (key_at rest) ps → Left last (cuts_of rest key last ps) (others_of key back)
  left [] last done back h e k =
      subst (Left last (record { splices = []; follow = follow_at rest last })) (sym (none_back back k)) (untouched last (drop last rest) back refl e)
  left (p ∷ ps) last done back h e k =
      let x = h.0 in
      let same : back ≡ (key_at rest p, x.old) ∷ x.back = back_is last done p back x e in
      let c : Cutting = cuts_of rest key p.end ps in
      let i = left ps p.end (done ++ p ∷ []) x.back h.1 x.left (later_keys (key_at rest p) x.old back x.back ps p same k) in
      subst (Left last (cut_if (is_named rest key p) rest last p c)) (others_if (is_named rest key p) p x.old x.back refl ∙ ap (others_of key) (sym same))
      (left_if (is_named rest key p) last done p c (others_of key x.back) x i)
