-- What goes of a tag whose key goes: its attributes, with the white space before them.
use Rattle.std.proofs.Common.{◌≡◌, ◌≤◌, ◌<◌, ℕ, zero, suc, ◌-◌, ◌+◌, Bool, true, false, ◌||◌, ◌&&◌, ◌==◌, List, [], ◌∷◌, ◌++◌, length, take, drop, map, refl, ap, ap₂, sym, subst, ◌∙◌, arith, if◌then◌else◌}
use Rattle.std.specs.Prelude.{slice_index}
use Rattle.std.specs.List.{All, Contains, list_all}
use Rattle.std.proofs.lemmas.List.Elements.{All-cons, All-head, All-tail}
use Rattle.std.proofs.lemmas.List.Folds.{list_all-append}
use Rattle.tl_html_spec.specs.HtmlTokenizer.{HtmlAttribute, OpenTag}
use Rattle.tl_html_parts.specs.Bytes.{is_space}
use Rattle.tl_patch_spec.specs.TagNames.{IsNameEnd}
use Rattle.tl_patch_spec.specs.Splices.{Splice}
use Rattle.tl_patch.specs.Inner.Cuts.{Cutting, cut_from, cut_if, cut_splice, cuts_of, space_before, space_start}
use Rattle.tl_patch.specs.AttributePlaces.{is_named, part, places_of}
use Rattle.tl_patch.specs.Taken.{TakesAttribute, TakesKey, shifted}
use Rattle.tl_patch.specs.declared.cut.Follow.{Follow}
use Rattle.tl_patch.specs.declared.stage.Place.{Place}
use Rattle.tl_patch.proofs.Attributes.{AreAttributes, IsAttribute}
use Rattle.tl_patch.proofs.Gone.{part_both, part_none}
use Rattle.tl_patch.proofs.Unset.{first_at, space_low}

-- white space

none_white : (a : ℕ) (rest : List ℕ) → list_all is_space (part a a rest) ≡ true
none_white a rest = ap (list_all is_space) (part_none a rest)

one_white : (k : ℕ) (rest : List ℕ) → is_space (slice_index rest k) ≡ true → list_all is_space (part k (k + 1) rest) ≡ true
one_white k rest w = let one : (k + 1) - k ≡ 1 = omega arith in ap (λ n. list_all is_space (take n (drop k rest))) one ∙ by_first (drop k rest) refl
  where
    by_first : (text : List ℕ) → drop k rest ≡ text → list_all is_space (take 1 text) ≡ true
    by_first [] e = refl
    by_first (b ∷ text) e = ap (λ (v : Bool). v && true) (ap is_space (sym (first_at k rest b text e).0) ∙ w)

pub space_white : (n from : ℕ) (rest : List ℕ) → list_all is_space (part (space_before n from rest) (from + n) rest) ≡ true
space_white zero from rest = let same : from ≡ from + 0 = omega arith in subst (λ k. list_all is_space (part from k rest) ≡ true) same (none_white from rest)
space_white (suc n) from rest = by_test (is_space (slice_index rest (from + n))) refl (space_white n from rest)
  where
    by_test : (c : Bool) → is_space (slice_index rest (from + n)) ≡ c → list_all is_space (part (space_before n from rest) (from + n) rest) ≡ true →
        list_all is_space (part (if c then space_before n from rest else from + suc n) (from + suc n) rest) ≡ true
    by_test false e h = none_white (from + suc n) rest
    by_test true e h =
        let b : ℕ = space_before n from rest in
        let high : b ≤ from + n = (space_low n from rest).1 in
        let next : (from + n) + 1 ≡ from + suc n = omega arith in
        subst (λ k. list_all is_space (part b k rest) ≡ true) next
        (ap (list_all is_space) (part_both b (from + n) ((from + n) + 1) rest high (omega arith))
        ∙ list_all-append is_space (part b (from + n) rest) (part (from + n) ((from + n) + 1) rest)
        ∙ ap₂ (λ (v w : Bool). v && w) h (one_white (from + n) rest e))

-- an attribute goes from its white space on, or from its key on

record Begins (last start from : ℕ) (rest : List ℕ) : Type 0 where
  order : from ≤ start
  white : list_all is_space (part from start rest) ≡ true

cut_begins : (last start first : ℕ) (free : Bool) (rest : List ℕ) → last ≤ start → Begins last start (cut_from (space_start rest last start) start first free) rest
cut_begins last start first free rest l = by_free free ((first == 62) || is_space first)
  where
    at_key : Begins last start start rest
    at_key = record { order = omega arith; white = none_white start rest }

    at_space : Begins last start (space_start rest last start) rest
    at_space =
        let same : last + (start - last) ≡ start = omega arith in
        let high : space_start rest last start ≤ last + (start - last) = (space_low (start - last) last rest).1 in
        record { order = omega arith; white = subst (λ k. list_all is_space (part (space_start rest last start) k rest) ≡ true) same (space_white (start - last) last rest) }

    by_free : (c d : Bool) → Begins last start (if c then if d then space_start rest last start else start else start) rest
    by_free false d = at_key
    by_free true false = at_key
    by_free true true = at_space

-- each attribute that goes is one of these

later_among : (ps : List Place) (p q : Place) → Contains ps q → Contains (p ∷ ps) q
later_among ps p q h = (suc h.0, (let l : h.0 < length ps = h.1 in omega arith), h.2)

later_taken : (rest key : List ℕ) (ps : List Place) (p : Place) (ss : List (Splice ℕ)) → All (TakesAttribute rest key ps) ss → All (TakesAttribute rest key (p ∷ ps)) ss
later_taken rest key ps p [] h = λ k d l. absurd (omega arith)
later_taken rest key ps p (s ∷ ss) h =
    let t : TakesAttribute rest key ps s = All-head (TakesAttribute rest key ps) s ss h in
    All-cons (TakesAttribute rest key (p ∷ ps)) s ss
    (record { place = t.place; among = later_among ps p t.place t.among; named = t.named; order = t.order; white = t.white; until = t.until })
    (later_taken rest key ps p ss (All-tail (TakesAttribute rest key ps) s ss h))

module _ (t : OpenTag) (rest : List ℕ) (closes returned : Bool) (more : List HtmlAttribute) (key : List ℕ) where
  taken_if : (b : Bool) (last : ℕ) (done ps : List Place) (p : Place) (c : Cutting) → IsAttribute t rest closes returned more last done p → is_named rest key p ≡ b →
      All (TakesAttribute rest key ps) c.splices → All (TakesAttribute rest key (p ∷ ps)) (cut_if b rest last p c).splices
  taken_if false last done ps p c x e h = later_taken rest key ps p c.splices h
  taken_if true last done ps p c x e h =
      let f : Follow = c.follow in
      let begins = cut_begins last p.key.start f.first f.is_free rest (x.gap).0.0 in
      All-cons (TakesAttribute rest key (p ∷ ps)) (cut_splice rest last p f) c.splices
      (record { place = p; among = (0, omega arith, refl); named = e; order = begins.order; white = begins.white; until = refl })
      (later_taken rest key ps p c.splices h)

  pub all_taken : (ps : List Place) (last : ℕ) (done : List Place) → AreAttributes t rest closes returned more last done ps → All (TakesAttribute rest key ps) (cuts_of rest key last ps).splices
  all_taken [] last done h = λ k d l. absurd (omega arith)
  all_taken (p ∷ ps) last done h =
      taken_if (is_named rest key p) last done ps p (cuts_of rest key p.end ps) h.0 refl (all_taken ps p.end (done ++ p ∷ []) h.1)

-- the same in the tag

pub keys_taken : (tag key : List ℕ) (n : ℕ) → IsNameEnd false n tag → (ss : List (Splice ℕ)) → All (TakesAttribute (drop n tag) key (places_of (drop n tag))) ss →
    All (TakesKey tag key) (map (shifted n) ss)
keys_taken tag key n p [] h = λ k d l. absurd (omega arith)
keys_taken tag key n p (s ∷ ss) h =
    let P : Splice ℕ → Type 0 = TakesAttribute (drop n tag) key (places_of (drop n tag)) in
    All-cons (TakesKey tag key) (shifted n s) (map (shifted n) ss)
    (record { start = n; inner = s; name = p; takes = All-head P s ss h; is = refl })
    (keys_taken tag key n p ss (All-tail P s ss h))
