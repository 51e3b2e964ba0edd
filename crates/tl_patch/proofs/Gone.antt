-- A tag without some of its attributes.
use Rattle.std.proofs.Common.{◌≡◌, ◌≤◌, ◌<◌, ℕ, suc, ◌-◌, ◌+◌, Bool, true, false, not, ◌||◌, ◌==◌, List, [], ◌∷◌, ◌++◌, take, drop, refl, ap, ap₂, sym, subst, ◌∙◌, inl, inr, append_assoc, arith, if◌then◌else◌, true≢false}
use Rattle.std.specs.Prelude.{◌⊎◌, nat_lt}
use Rattle.std.specs.List.{list_all}
use Rattle.std.proofs.Math.Seq.{take-add}
use Rattle.std.proofs.lemmas.Bool.{and_parts, cases_Bool, cases_lt, eqb-true, lt-ltb}
use Rattle.std.proofs.lemmas.List.{drop-drop, drop_all, take-append-drop}
use Rattle.std.proofs.lemmas.List.Folds.{list_all-append}
use Rattle.tl_html_spec.specs.HtmlTokenizer.{HtmlAttribute, OpenTag}
use Rattle.tl_html_parts.specs.Bytes.{is_space}
use Rattle.tl_patch_spec.proofs.Inside.{adding_to, after_value, before_key, ended, inner_text}
use Rattle.tl_patch.specs.AttributePlaces.{key_at, part}
use Rattle.tl_patch.specs.Inner.Cuts.{cut_from, cut_put, free_after, is_blank, is_free, opens, over}
use Rattle.tl_patch.specs.declared.stage.Place.{Place}
use Rattle.tl_patch.proofs.Attributes.{Begins, Gap, IsAttribute, Kind, no_text, no_value, quoted, unquoted}
use Rattle.tl_patch.proofs.Gaps.{IsOther, adding_none, alike_after, alike_free, alike_opens, alike_over, bare_read, before_after, blank_not_over, free_gap, gap_free, gap_read, key_alone, text_append, text_none}

-- parts of a list

abbrev nothing : List ℕ
nothing = []

pub part_both : (a b c : ℕ) (rest : List ℕ) → a ≤ b → b ≤ c → part a c rest ≡ part a b rest ++ part b c rest
part_both a b c rest l m =
    let n : c - a ≡ (b - a) + (c - b) = omega arith in
    let o : a + (b - a) ≡ b = omega arith in
    ap (λ k. take k (drop a rest)) n ∙ take-add (b - a) (c - b) (drop a rest)
    ∙ ap (λ xs. part a b rest ++ take (c - b) xs) (drop-drop (b - a) a rest ∙ ap (λ k. drop k rest) o)

pub part_rest : (a b : ℕ) (rest : List ℕ) → a ≤ b → drop a rest ≡ part a b rest ++ drop b rest
part_rest a b rest l =
    let o : a + (b - a) ≡ b = omega arith in
    sym (take-append-drop (b - a) (drop a rest)) ∙ ap (λ xs. part a b rest ++ xs) (drop-drop (b - a) a rest ∙ ap (λ k. drop k rest) o)

pub part_first : (a b : ℕ) (rest : List ℕ) (c : ℕ) (y : List ℕ) → a < b → drop a rest ≡ c ∷ y → part a b rest ≡ c ∷ take (b - suc a) y
part_first a b rest c y l e =
    let n : b - a ≡ suc (b - suc a) = omega arith in
    ap₂ (λ k (xs : List ℕ). take k xs) n e

pub part_none : (a : ℕ) (rest : List ℕ) → part a a rest ≡ []
part_none a rest = let n : a - a ≡ 0 = omega arith in ap (λ k. take k (drop a rest)) n

module _ (rest : List ℕ) (closes returned : Bool) where
  abbrev pub EndsIn : List ℕ → List HtmlAttribute → Type 0
  EndsIn text xs = inner_text after_value false text ≡ ended closes xs returned []

  -- a text that may stand in the place of what follows a place, and gives these attributes
  pub record Instead (at : ℕ) (new : List ℕ) (xs : List HtmlAttribute) : Type 0 where
    pub read : EndsIn new xs
    pub space : opens (drop at rest) ≡ true → opens new ≡ true
    pub alone : is_free (drop at rest) ≡ true → is_free new ≡ true
    pub end : over (drop at rest) ≡ true → over new ≡ true

module _ (t : OpenTag) (rest : List ℕ) (closes returned : Bool) (more : List HtmlAttribute) where
  abbrev key : Place → List ℕ
  key p = key_at rest p

  kind_read : (p : Place) (old : List ℕ) (new : List ℕ) (xs : List HtmlAttribute) → Kind t rest closes returned more p old → Instead rest closes returned p.end new xs →
      inner_text before_key false (part p.key.start p.end rest ++ new) ≡ ended closes ((key_at rest p, old) ∷ xs) returned []
  kind_read p old new xs (quoted r) h =
      text_append (part p.key.start p.end rest) new before_key after_value false false ((key_at rest p, old) ∷ []) r ∙ ap (adding_to ((key_at rest p, old) ∷ [])) h.read
  kind_read p old new xs (no_value r f e) h =
      let k : List ℕ = key_at rest p in
      text_append (part p.key.start p.end rest) new before_key _ false false [] r
      ∙ ap (adding_to []) (key_alone k new closes returned xs (h.alone f) h.read)
      ∙ ap (λ o. ended closes ((k, o) ∷ xs) returned []) (sym e)
  kind_read p old new xs (unquoted i r b f e) h =
      let k : List ℕ = key_at rest p in
      text_append (part p.key.start p.end rest) new before_key i false false [] r
      ∙ ap (adding_to []) (bare_read k i new closes returned xs b (h.space f) h.read)
      ∙ ap (λ o. ended closes ((k, o) ∷ xs) returned []) (sym e)
  kind_read p old new xs (no_text v r f e) h =
      let k : List ℕ = key_at rest p in
      text_append (part p.key.start p.end rest) new before_key _ false v [] r
      ∙ ap (adding_to []) (text_none k v new closes returned xs (h.end f) h.read)
      ∙ ap (λ o. ended closes ((k, o) ∷ xs) returned []) (sym e)

  -- an attribute that stays

  pub kept : (last : ℕ) (done : List Place) (p : Place) (new : List ℕ) (xs : List HtmlAttribute) (x : IsAttribute t rest closes returned more last done p) →
      Instead rest closes returned p.end new xs → Instead rest closes returned last (part last p.end rest ++ new) ((key_at rest p, x.old) ∷ xs)
  kept last done p new xs x h =
      let s : ℕ = p.key.start in
      let b : Begins t rest closes returned more s = (x.gap).1 in
      let gap : List ℕ = part last s rest in
      let l : last ≤ s = (x.gap).0.0 in
      let m : s < p.end = x.key_order in
      let y : List ℕ = take (p.end - suc s) b.later in
      let first : part s p.end rest ≡ b.first ∷ y = part_first s p.end rest b.first b.later m b.is in
      let parts : part last p.end rest ++ new ≡ gap ++ (b.first ∷ (y ++ new)) =
      ap (λ zs. zs ++ new) (part_both last s p.end rest l (omega arith) ∙ ap (λ zs. gap ++ zs) first) ∙ append_assoc gap (b.first ∷ y) new in
      let was : drop last rest ≡ gap ++ (b.first ∷ b.later) = part_rest last s rest l ∙ ap (λ zs. gap ++ zs) b.is in
      let here : inner_text before_key false (b.first ∷ (y ++ new)) ≡ ended closes ((key_at rest p, x.old) ∷ xs) returned [] =
      sym (ap (λ zs. inner_text before_key false (zs ++ new)) first) ∙ kind_read p x.old new xs x.kind h in
      record {
        read = ap (inner_text after_value false) parts ∙ gap_read gap (b.first ∷ (y ++ new)) (x.gap).0.1 b.no_greater
            ∙ sym (before_after false b.first (y ++ new)) ∙ here;
        space = λ o. ap opens parts ∙ sym (alike_opens gap b.first b.later (y ++ new)) ∙ sym (ap opens was) ∙ o;
        alone = λ o. ap is_free parts ∙ sym (alike_free gap b.first b.later (y ++ new) b.no_space) ∙ sym (ap is_free was) ∙ o;
        end = λ o. ap over parts ∙ sym (alike_over gap b.first b.later (y ++ new)) ∙ sym (ap over was) ∙ o;
      }

  pub kept_free : (last : ℕ) (done : List Place) (p : Place) (new : List ℕ) (x : IsAttribute t rest closes returned more last done p) → free_after (part last p.end rest ++ new) ≡ free_after (drop last rest)
  kept_free last done p new x =
      let s : ℕ = p.key.start in
      let b : Begins t rest closes returned more s = (x.gap).1 in
      let gap : List ℕ = part last s rest in
      let l : last ≤ s = (x.gap).0.0 in
      let m : s < p.end = x.key_order in
      let y : List ℕ = take (p.end - suc s) b.later in
      let first : part s p.end rest ≡ b.first ∷ y = part_first s p.end rest b.first b.later m b.is in
      ap free_after (ap (λ zs. zs ++ new) (part_both last s p.end rest l (omega arith) ∙ ap (λ zs. gap ++ zs) first) ∙ append_assoc gap (b.first ∷ y) new)
      ∙ alike_after gap b.first (y ++ new) b.later b.no_space
      ∙ sym (ap free_after (part_rest last s rest l ∙ ap (λ zs. gap ++ zs) b.is))

  -- one that goes

  -- after blanks that stay
  after_some : (last : ℕ) (b : ℕ) (gap y text : List ℕ) (xs : List HtmlAttribute) → drop last rest ≡ b ∷ y → list_all is_blank (b ∷ gap) ≡ true → IsOther text → free_after text ≡ true →
      EndsIn rest closes returned text xs → Instead rest closes returned last ((b ∷ gap) ++ text) xs
  after_some last b gap y text xs d g o f e = record {
    read = gap_read (b ∷ gap) text g o ∙ e;
    space = λ h. sym (ap opens d) ∙ h;
    alone = λ h. gap_free b gap text g f;
    end = λ h. sym (ap over d) ∙ h;
  }

  -- or none
  after_none : (last : ℕ) (b : ℕ) (y text : List ℕ) (xs : List HtmlAttribute) → drop last rest ≡ b ∷ y → (b == 62) ≡ false → ((is_space b ≡ false) × ((b == 47) ≡ false)) ⊎ ((opens text ≡ true) × (is_free text ≡ true)) →
      EndsIn rest closes returned text xs → Instead rest closes returned last text xs
  after_none last b y text xs d n (inr h) e = record {
    read = e;
    space = λ o. h.0;
    alone = λ o. h.1;
    end = λ o. absurd (true≢false (sym o ∙ ap over d ∙ n));
  }
  after_none last b y text xs d n (inl h) e = record {
    read = e;
    space = λ o. absurd (true≢false (sym o ∙ ap opens d ∙ ap₂ (λ (u v : Bool). u || v) h.0 n));
    alone = λ o. absurd (true≢false (sym o ∙ ap is_free d ∙ ap (λ (c : Bool). if c then free_after y else (b == 47) || (b == 62)) h.0 ∙ ap₂ (λ (u v : Bool). u || v) h.1 n));
    end = λ o. absurd (true≢false (sym o ∙ ap over d ∙ n));
  }

  after_blanks : (last at : ℕ) (b : ℕ) (y text : List ℕ) (xs : List HtmlAttribute) → last ≤ at → drop last rest ≡ b ∷ y → (b == 62) ≡ false → list_all is_blank (part last at rest) ≡ true → free_after text ≡ true → IsOther text →
      (last ≡ at → ((is_space b ≡ false) × ((b == 47) ≡ false)) ⊎ ((opens text ≡ true) × (is_free text ≡ true))) → EndsIn rest closes returned text xs →
      Instead rest closes returned last (part last at rest ++ text) xs
  after_blanks last at b y text xs l d n g f o k e = elim (cases_lt last at) [
    | inl m ↦ (
        let gap : List ℕ = take (at - suc last) y in
        let first : part last at rest ≡ b ∷ gap = part_first last at rest b y m d in
        subst (λ zs. Instead rest closes returned last (zs ++ text) xs) (sym first)
        (after_some last b gap y text xs d (sym (ap (list_all is_blank) first) ∙ g) o f e))
    | inr m ↦ (
        let same : last ≡ at = omega arith in
        let none : part last at rest ≡ [] = ap (λ z. part last z rest) (sym same) ∙ part_none last rest in
        subst (λ zs. Instead rest closes returned last (zs ++ text) xs) (sym none) (after_none last b y text xs d n (k same) e))
  ]

  -- what stands in its place
  pub record Gone (last space : ℕ) (p : Place) (f : ℕ) (free : Bool) (new : List ℕ) (xs : List HtmlAttribute) : Type 0 where
    pub low : last ≤ cut_from space p.key.start f free
    pub high : cut_from space p.key.start f free ≤ p.key.start
    pub instead : Instead rest closes returned last (part last (cut_from space p.key.start f free) rest ++ (cut_put last space p.key.start f free ++ new)) xs
    pub is_free : free_after (part last (cut_from space p.key.start f free) rest ++ (cut_put last space p.key.start f free ++ new)) ≡ true

  blank_front : (last at s : ℕ) → last ≤ at → at ≤ s → list_all is_blank (part last s rest) ≡ true → list_all is_blank (part last at rest) ≡ true
  blank_front last at s l m g =
      (and_parts (list_all is_blank (part last at rest)) (list_all is_blank (part at s rest))
      (sym (ap (list_all is_blank) (part_both last at s rest l m) ∙ list_all-append is_blank (part last at rest) (part at s rest)) ∙ g)).0

  -- the first byte after the attribute before

  abbrev Head : ℕ → ℕ → Type 0
  Head last s = (c : ℕ) × (y : List ℕ) × (drop last rest ≡ c ∷ y) × ((c == 62) ≡ false) × (last ≡ s → (is_space c ≡ false) × ((c == 47) ≡ false))

  never : (c : ℕ) (y : List ℕ) → [] ≡ c ∷ y → ⊥
  never c y e = cc

  head_in : (last s : ℕ) (b : Begins t rest closes returned more s) → list_all is_blank (part last s rest) ≡ true → last < s → (xs : List ℕ) → drop last rest ≡ xs → Head last s
  head_in last s b g m [] e =
      let o : last + (s - last) ≡ s = omega arith in
      let gone : drop s rest ≡ [] = sym (drop-drop (s - last) last rest ∙ ap (λ k. drop k rest) o) ∙ ap (drop (s - last)) e ∙ drop_all (s - last) nothing (omega arith) in
      absurd (never b.first b.later (sym gone ∙ b.is))
  head_in last s b g m (c ∷ y) e =
      let first : part last s rest ≡ c ∷ take (s - suc last) y = part_first last s rest c y m e in
      let blank : is_blank c ≡ true = (and_parts (is_blank c) (list_all is_blank (take (s - suc last) y)) (sym (ap (list_all is_blank) first) ∙ g)).0 in
      (c, y, e, blank_not_over c blank, λ q. absurd (omega arith))

  head_at : (last s : ℕ) (b : Begins t rest closes returned more s) → last ≤ s → list_all is_blank (part last s rest) ≡ true → Head last s
  head_at last s b l g = elim (cases_lt last s) [
    | inr m ↦ (
        let same : last ≡ s = omega arith in
        (b.first, b.later, ap (λ n. drop n rest) same ∙ b.is, b.no_greater, λ e. (b.no_space, b.no_slash)))
    | inl m ↦ head_in last s b g m (drop last rest) refl
  ]

  free_blanks : (last at s : ℕ) (text : List ℕ) → last ≤ at → at ≤ s → list_all is_blank (part last s rest) ≡ true → free_after text ≡ true → free_after (part last at rest ++ text) ≡ true
  free_blanks last at s text l m g f = free_gap (part last at rest) text (blank_front last at s l m g) f

  gone_by : (last space : ℕ) (p : Place) (f : ℕ) (free : Bool) (new : List ℕ) (xs : List HtmlAttribute) (from : ℕ) (put : List ℕ) → cut_from space p.key.start f free ≡ from → cut_put last space p.key.start f free ≡ put →
      Gap t rest closes returned more last p.key.start → last ≤ from → from ≤ p.key.start → free_after (put ++ new) ≡ true → IsOther (put ++ new) ⊎ (last ≡ from) →
      (last ≡ from → (last ≡ p.key.start) ⊎ ((opens (put ++ new) ≡ true) × (is_free (put ++ new) ≡ true))) → EndsIn rest closes returned (put ++ new) xs →
      Gone last space p f free new xs
  gone_by last space p f free new xs from put e q g l m r o k w =
      let s : ℕ = p.key.start in
      let h = head_at last s g.1 g.0.0 g.0.1 in
      let text : List ℕ = put ++ new in
      let blank : list_all is_blank (part last from rest) ≡ true = blank_front last from s l m g.0.1 in
      let here : Instead rest closes returned last (part last from rest ++ text) xs =
      instead_by last from h.0 h.1 text xs l h.2 h.3 blank r o
      (λ z. elim (k z) [ inl y ↦ inl (h.4 y) | inr y ↦ inr y ]) w in
      record {
        low = subst (λ n. last ≤ n) (sym e) l;
        high = subst (λ n. n ≤ s) (sym e) m;
        instead = subst (λ zs. Instead rest closes returned last zs xs) (sym (ap₂ (λ n zs. part last n rest ++ (zs ++ new)) e q)) here;
        is_free = ap₂ (λ n zs. free_after (part last n rest ++ (zs ++ new))) e q ∙ free_gap (part last from rest) text blank r;
      }
    where
      instead_by : (last at : ℕ) (b : ℕ) (y text : List ℕ) (xs : List HtmlAttribute) → last ≤ at → drop last rest ≡ b ∷ y → (b == 62) ≡ false → list_all is_blank (part last at rest) ≡ true → free_after text ≡ true → IsOther text ⊎ (last ≡ at) →
          (last ≡ at → ((is_space b ≡ false) × ((b == 47) ≡ false)) ⊎ ((opens text ≡ true) × (is_free text ≡ true))) → EndsIn rest closes returned text xs →
          Instead rest closes returned last (part last at rest ++ text) xs
      instead_by last at b y text xs l d n g f (inl o) k e = after_blanks last at b y text xs l d n g f o k e
      instead_by last at b y text xs l d n g f (inr same) k e =
          let none : part last at rest ≡ [] = ap (λ z. part last z rest) (sym same) ∙ part_none last rest in
          subst (λ zs. Instead rest closes returned last (zs ++ text) xs) (sym none) (after_none last b y text xs d n (k same) e)

  -- after a slash, or a space
  slash_read : (new : List ℕ) (xs : List HtmlAttribute) → IsOther new → EndsIn rest closes returned new xs → EndsIn rest closes returned (47 ∷ new) xs
  slash_read new xs o e = gap_read (47 ∷ []) new refl o ∙ e

  space_read : (f : ℕ) (y : List ℕ) (xs : List HtmlAttribute) → EndsIn rest closes returned (f ∷ y) xs → EndsIn rest closes returned (32 ∷ (f ∷ y)) xs
  space_read f y xs e = adding_none (inner_text before_key false (f ∷ y)) ∙ before_after false f y ∙ e

  free_other : (f : ℕ) (y : List ℕ) → free_after (f ∷ y) ≡ false → (f == 62) ≡ false
  free_other f y h = elim (cases_Bool (f == 62)) [
    | inl z ↦ absurd (true≢false (sym (ap (λ c. free_after (c ∷ y)) (eqb-true f 62 z)) ∙ h))
    | inr n ↦ n
  ]

  space_other : (f : ℕ) → is_space f ≡ true → (f == 62) ≡ false
  space_other f h = blank_not_over f (ap (λ (c : Bool). c || (f == 47)) h)

  pub gone : (last space : ℕ) (done : List Place) (p : Place) (f : ℕ) (y : List ℕ) (xs : List HtmlAttribute) (x : IsAttribute t rest closes returned more last done p) → last ≤ space → space ≤ p.key.start →
      Instead rest closes returned p.end (f ∷ y) xs → Gone last space p f (free_after (f ∷ y)) (f ∷ y) xs
  gone last space done p f y xs x l m h =
      let s : ℕ = p.key.start in
      let new : List ℕ = f ∷ y in
      let g = x.gap in
      let r : last ≤ s = g.0.0 in
      elim (cases_Bool (free_after (f ∷ y))) [
        | inr n ↦ gone_by last space p f (free_after new) new xs s (47 ∷ []) (ap (λ c. cut_from space s f c) n) (ap (λ c. cut_put last space s f c) n) g r (omega arith) refl
            (inl refl) (λ e. inl e) (slash_read new xs (free_other f y n) h.read)
        | inl q ↦ elim (cases_Bool (f == 62)) [
          | inl z ↦ elim (cases_Bool (nat_lt last space)) [
            | inl a ↦ gone_by last space p f (free_after new) new xs space (32 ∷ []) (rw (q, z) refl) (rw (q, z, a) refl) g l m q
                (inl refl) (λ e. inr (refl, q)) (space_read f y xs h.read)
            | inr a ↦ (
                let same : last ≡ space = (let w : space ≤ last = not_lt last space a in omega arith) in
                gone_by last space p f (free_after new) new xs space [] (rw (q, z) refl) (rw (q, z, a) refl) g l m q
                (inr same) (λ e. inr (ap₂ (λ (u v : Bool). u || v) (space_62 f z) z, ap (λ c. is_free (c ∷ y)) (eqb-true f 62 z))) h.read)
          ]
          | inr z ↦ elim (cases_Bool (is_space f)) [
            | inl w ↦ gone_by last space p f (free_after new) new xs space [] (rw (q, z, w) refl) (rw (q, z, w) refl) g l m q
                (inl z) (λ e. inr (ap (λ (c : Bool). c || (f == 62)) w, space_free f y w q)) h.read
            | inr w ↦ elim (cases_Bool (nat_lt space s)) [
              | inl a ↦ gone_by last space p f (free_after new) new xs s [] (rw (q, z, w) refl) (rw (q, z, w, a) refl) g r (omega arith) q
                  (inl z) (λ e. inl e) h.read
              | inr a ↦ gone_by last space p f (free_after new) new xs s (32 ∷ []) (rw (q, z, w) refl) (rw (q, z, w, a) refl) g r (omega arith) q
                  (inl refl) (λ e. inr (refl, q)) (space_read f y xs h.read)
            ]
          ]
        ]
      ]
    where
      not_lt : (a b : ℕ) → nat_lt a b ≡ false → b ≤ a
      not_lt a b h = elim (cases_lt a b) [
        | inl m ↦ absurd (true≢false (sym (lt-ltb a b m) ∙ h))
        | inr m ↦ m
      ]

      space_62 : (f : ℕ) → (f == 62) ≡ true → is_space f ≡ false
      space_62 f z = ap is_space (eqb-true f 62 z)

      space_free : (f : ℕ) (y : List ℕ) → is_space f ≡ true → free_after (f ∷ y) ≡ true → is_free (f ∷ y) ≡ true
      space_free f y w q = ap (λ (c : Bool). if c then free_after y else (f == 47) || (f == 62)) w ∙ sym (ap (λ (c : Bool). if c then free_after y else not (f == 61)) w) ∙ q
