-- What is open at a place of a page, by names: what the rules of "in body" look for there isn't found.
use Rattle.std.proofs.Common.{Bool, List, None, Option, [], ap, codes, false, if◌then◌else◌, inl, inr, map, not, refl, sym, true, true≢false, ℕ, ◌&&◌, ◌==◌, ◌||◌, ◌∙◌, ◌∷◌, ◌≡◌}
use Rattle.std.specs.Prelude.{⊤}
use Rattle.std.specs.List.{list_any}
use Rattle.std.specs.Str.{bytes_eq}
use Rattle.std.proofs.lemmas.Bool.{and_left, and_right, cases_Bool, cond-false, cond_both, false_from_ne_true, or_from, or_parts}
use Rattle.std.proofs.lemmas.Slice.Eq.{bytes_eq-Decides}
use Rattle.tl_names.specs.Elements.{headings, is_among, table_sections}
use Rattle.tl_html_spec.specs.Balanced as H
use Rattle.tl_html_spec.specs.Balanced.{is_one_of, words}
use Rattle.tl_tree_spec.specs.Builder as P
use Rattle.tl_tree_spec.specs.Groups as G
use Rattle.tl_tree_spec.specs.HtmlForest.{HtmlTag}
use Rattle.tl_tree_spec.specs.Stays as Y
use Rattle.tl_dom_spec.specs.Body as D
use Rattle.tl_dom_spec.specs.Builder as B
use Rattle.tl_dom_spec.specs.Path as W
use Rattle.tl_dom_spec.specs.Reset as E
use Rattle.tl_dom_spec.specs.Tags as T
use Rattle.tl_dom_spec.specs.Tags.{Tag}
use Rattle.tl_dom_spec.proofs.PartNames.{facts, has_twin, is_button_group, is_elsewhere, twin}
use Rattle.tl_dom_spec.proofs.PartPaths.{tag_with}
use Rattle.tl_dom_spec.proofs.PartTests.{each_name}

-- The open elements of a path, by tags and by numbers

abbrev pub tags : W.Path → List Tag
tags [] = []
tags (f ∷ path) = if f.is_open then f.tag ∷ tags path else tags path

abbrev pub numbers : W.Path → List ℕ
numbers [] = []
numbers (f ∷ path) = if f.is_open then f.number ∷ numbers path else numbers path

pub within-tags : (test stops : Tag → Bool) (path : W.Path) → W.has_within test stops path ≡ P.within test stops (tags path)
within-tags test stops [] = refl
within-tags test stops (f ∷ path) = by_open f.is_open (within-tags test stops path)
  where
    by_open : (v : Bool) → W.has_within test stops path ≡ P.within test stops (tags path) →
        W.within (W.has_tag test) (W.has_tag stops) (if v then f ∷ W.elements path else W.elements path) ≡ P.within test stops (if v then f.tag ∷ tags path else tags path)
    by_open true e = ap (λ v. test f.tag || (not (stops f.tag) && v)) e
    by_open false e = e

earlier-frames : (test bounds : Tag → Bool) (fs : List W.Frame) → W.within (W.has_tag test) (W.has_tag bounds) fs ≡ false → D.earlier_item test bounds fs ≡ None
earlier-frames test bounds [] h = refl
earlier-frames test bounds (f ∷ fs) h =
    let two = or_parts (test f.tag) (not (bounds f.tag) && W.within (W.has_tag test) (W.has_tag bounds) fs) h in
    cond-false (test f.tag) _ _ two.0
    ∙ elim (cases_Bool (bounds f.tag)) [
      | inl y ↦ ap (λ (v : Bool). if v then None else D.earlier_item test bounds fs) y
      | inr n ↦ cond-false (bounds f.tag) _ _ n
          ∙ earlier-frames test bounds fs (sym (ap (λ v. not v && W.within (W.has_tag test) (W.has_tag bounds) fs) n) ∙ two.1)
    ]

pub earlier-none : (test bounds : Tag → Bool) (path : W.Path) → P.within test bounds (tags path) ≡ false → D.earlier_item test bounds (W.elements path) ≡ None
earlier-none test bounds path h = earlier-frames test bounds (W.elements path) (within-tags test bounds path ∙ h)

abbrev pub has : List ℕ → ℕ → Bool
has ns k = list_any (λ n. n == k) ns

pub open-numbers : (k : ℕ) (path : W.Path) → W.is_open_number k path ≡ has (numbers path) k
open-numbers k [] = refl
open-numbers k (f ∷ path) = by_open f.is_open (open-numbers k path)
  where
    by_open : (v : Bool) → W.is_open_number k path ≡ has (numbers path) k →
        W.within (W.has_number k) W.no_frame (if v then f ∷ W.elements path else W.elements path) ≡ has (if v then f.number ∷ numbers path else numbers path) k
    by_open true e = ap (λ v. (f.number == k) || v) e
    by_open false e = e

-- the mode that tags decide
abbrev pub mode_tags : B.Builder → List Tag → B.Mode
mode_tags b [] = B.in_body
mode_tags b (t ∷ []) = E.or_mode (E.tag_mode b true (E.last_tag b.context t)) B.in_body
mode_tags b (t ∷ u ∷ us) = E.or_mode (E.tag_mode b false t) (mode_tags b (u ∷ us))

mode-frames : (b : B.Builder) (fs : List W.Frame) → E.mode_of b fs ≡ mode_tags b (map (λ (f : W.Frame). f.tag) fs)
mode-frames b [] = refl
mode-frames b (f ∷ []) = refl
mode-frames b (f ∷ g ∷ fs) = ap (E.or_mode (E.tag_mode b false f.tag)) (mode-frames b (g ∷ fs))

element-tags : (path : W.Path) → map (λ (f : W.Frame). f.tag) (W.elements path) ≡ tags path
element-tags [] = refl
element-tags (f ∷ path) = by_open f.is_open (element-tags path)
  where
    by_open : (v : Bool) → map (λ (f : W.Frame). f.tag) (W.elements path) ≡ tags path →
        map (λ (f : W.Frame). f.tag) (if v then f ∷ W.elements path else W.elements path) ≡ (if v then f.tag ∷ tags path else tags path)
    by_open true e = ap (λ ts. f.tag ∷ ts) e
    by_open false e = e

pub mode-path : (b : B.Builder) (path : W.Path) → E.mode_of b (W.elements path) ≡ mode_tags b (tags path)
mode-path b path = mode-frames b (W.elements path) ∙ ap (mode_tags b) (element-tags path)

-- Elements of a print that are open at a place

pub record Inner : Type 0 where
  pub number : ℕ
  pub source : Option ℕ
  pub own : HtmlTag

abbrev pub tag_in : Inner → Tag
tag_in i = tag_with i.source i.own

abbrev pub names_of : List Inner → List (List ℕ)
names_of [] = codes "html" ∷ []
names_of (i ∷ is) = i.own.name ∷ names_of is

abbrev pub tags_of : List Tag → List Inner → List Tag
tags_of outer [] = outer
tags_of outer (i ∷ is) = tag_in i ∷ tags_of outer is

abbrev pub numbers_of : List ℕ → List Inner → List ℕ
numbers_of outer [] = outer
numbers_of outer (i ∷ is) = i.number ∷ numbers_of outer is

-- their names have rules that both builders have
abbrev pub AreTwins : List Inner → Type 0
AreTwins [] = ⊤
AreTwins (i ∷ is) = (has_twin (G.group i.own.name) ≡ true) × AreTwins is

elsewhere_off : (g : G.Group) → has_twin g ≡ true → is_elsewhere g ≡ false
elsewhere_off G.elsewhere h = absurd (true≢false (sym h))
elsewhere_off _ h = refl

-- what is found by tags in a scope is found by names
module _ (test stops : List ℕ → Bool) (tested stopped : Tag → Bool) (outer : List Tag)
    (tests : (i : Inner) → has_twin (G.group i.own.name) ≡ true → tested (tag_in i) ≡ true → test i.own.name ≡ true)
    (bounds : (i : Inner) → has_twin (G.group i.own.name) ≡ true → stops i.own.name ≡ true → stopped (tag_in i) ≡ true)
    (around : P.within tested stopped outer ≡ false) where
  none-within : (is : List Inner) → AreTwins is → P.within test stops (names_of is) ≡ false → P.within tested stopped (tags_of outer is) ≡ false
  none-within [] h w = around
  none-within (i ∷ is) h w =
      let n : List ℕ = i.own.name in
      let two = or_parts (test n) (not (stops n) && P.within test stops (names_of is)) w in
      or_from (tested (tag_in i)) (not (stopped (tag_in i)) && P.within tested stopped (tags_of outer is))
      (false_from_ne_true (tested (tag_in i)) (λ y. true≢false (sym (tests i h.0 y) ∙ two.0)))
      (elim (cases_Bool (stops n)) [
        | inl y ↦ and_left (not (stopped (tag_in i))) _ (ap not (bounds i h.0 y))
        | inr m ↦ and_right (not (stopped (tag_in i))) _ (none-within is h.1 (sym (ap (λ v. not v && P.within test stops (names_of is)) m) ∙ two.1))
      ])

-- a test that finds less
pub fewer-within : (tested more stopped : Tag → Bool) → ((t : Tag) → tested t ≡ true → more t ≡ true) → (ts : List Tag) → P.within more stopped ts ≡ false → P.within tested stopped ts ≡ false
fewer-within tested more stopped f [] w = refl
fewer-within tested more stopped f (t ∷ ts) w =
    let two = or_parts (more t) (not (stopped t) && P.within more stopped ts) w in
    or_from (tested t) (not (stopped t) && P.within tested stopped ts)
    (false_from_ne_true (tested t) (λ y. true≢false (sym (f t y) ∙ two.0)))
    (elim (cases_Bool (stopped t)) [
      | inl y ↦ and_left (not (stopped t)) _ (ap not y)
      | inr m ↦ and_right (not (stopped t)) _ (fewer-within tested more stopped f ts (sym (ap (λ v. not v && P.within more stopped ts) m) ∙ two.1))
    ])

-- Tests of elements and of names

scope_is : (i : Inner) → has_twin (G.group i.own.name) ≡ true → T.is_scope (tag_in i) ≡ H.is_scope i.own.name
scope_is i h = sym ((facts i.own.name).scope (elsewhere_off (G.group i.own.name) h))

button_scope_is : (i : Inner) → has_twin (G.group i.own.name) ≡ true → T.is_button_scope (tag_in i) ≡ H.is_button_scope i.own.name
button_scope_is i h = ap (λ v. v || is_one_of (codes "button") i.own.name) (scope_is i h)

surely : (a p s v : Bool) → ((a && not p) && not s) ≡ true → ((a && (v || not s)) && not p) ≡ true
surely true false false true h = refl
surely true false false false h = refl
surely true false true v h = absurd (true≢false (sym h))
surely true true s v h = absurd (true≢false (sym h))
surely false p s v h = absurd (true≢false (sym h))

bound_is : (v : Bool) (i : Inner) → Y.surely_ends i.own.name ≡ true → T.is_item_bound v (tag_in i) ≡ true
bound_is v i h = surely (H.is_special i.own.name) (is_one_of (codes "address div p") i.own.name) (is_one_of (codes "search") i.own.name) v h

-- the one name of a test
pub the_name : (w n : List ℕ) → list_any (bytes_eq n) (w ∷ []) ≡ true → n ≡ w
the_name w n h = each_name (λ m. m ≡ w) n (w ∷ []) (refl, tt) h

abbrev pub is_nobr_group : G.Group → Bool
is_nobr_group G.a_nobr = true
is_nobr_group _ = false

nobr_named : (n : List ℕ) → is_nobr_group (G.group n) ≡ true → is_one_of (codes "nobr") n ≡ true
nobr_named n =
    let Q : G.Group → Type 0 = λ g. is_nobr_group g ≡ true → is_one_of (codes "nobr") n ≡ true in
    cond_both (is_one_of (codes "p") n) _ _ Q (λ _ z. absurd (true≢false (sym z)))
    (λ _. cond_both (is_one_of G.block_names n) _ _ Q (λ _ z. absurd (true≢false (sym z)))
    (λ _. cond_both (is_among headings n) _ _ Q (λ _ z. absurd (true≢false (sym z)))
    (λ _. cond_both (is_one_of (codes "pre listing") n) _ _ Q (λ _ z. absurd (true≢false (sym z)))
    (λ _. cond_both (is_one_of (codes "li") n) _ _ Q (λ _ z. absurd (true≢false (sym z)))
    (λ _. cond_both (is_one_of (codes "dd dt") n) _ _ Q (λ _ z. absurd (true≢false (sym z)))
    (λ _. cond_both (is_one_of (codes "button") n) _ _ Q (λ _ z. absurd (true≢false (sym z)))
    (λ _. cond_both (is_one_of (codes "a") n) _ _ Q (λ _ z. absurd (true≢false (sym z)))
    (λ _. cond_both (is_one_of G.format_names n) _ _ Q (λ _ z. absurd (true≢false (sym z)))
    (λ _. cond_both (is_one_of (codes "nobr") n) _ _ Q (λ y _. y)
    (λ _. cond_both (is_one_of (codes "applet marquee object") n) _ _ Q (λ _ z. absurd (true≢false (sym z)))
    (λ _. cond_both (is_one_of (codes "br") n) _ _ Q (λ _ z. absurd (true≢false (sym z)))
    (λ _. cond_both (is_one_of (codes "area embed img keygen wbr") n) _ _ Q (λ _ z. absurd (true≢false (sym z)))
    (λ _. cond_both (is_one_of (codes "image") n) _ _ Q (λ _ z. absurd (true≢false (sym z)))
    (λ _. cond_both (is_one_of (codes "param source track") n) _ _ Q (λ _ z. absurd (true≢false (sym z)))
    (λ _. cond_both (is_one_of (codes "hr") n) _ _ Q (λ _ z. absurd (true≢false (sym z)))
    (λ _. cond_both (is_one_of (codes "rb rtc") n) _ _ Q (λ _ z. absurd (true≢false (sym z)))
    (λ _. cond_both (is_one_of (codes "rp rt") n) _ _ Q (λ _ z. absurd (true≢false (sym z)))
    (λ _. cond_both (is_one_of (codes "table") n) _ _ Q (λ _ z. absurd (true≢false (sym z)))
    (λ _. cond_both (is_one_of (codes "caption") n) _ _ Q (λ _ z. absurd (true≢false (sym z)))
    (λ _. cond_both (is_one_of (codes "colgroup") n) _ _ Q (λ _ z. absurd (true≢false (sym z)))
    (λ _. cond_both (is_one_of (codes "col") n) _ _ Q (λ _ z. absurd (true≢false (sym z)))
    (λ _. cond_both (is_among table_sections n) _ _ Q (λ _ z. absurd (true≢false (sym z)))
    (λ _. cond_both (is_one_of (codes "tr") n) _ _ Q (λ _ z. absurd (true≢false (sym z)))
    (λ _. cond_both (is_one_of (codes "td th") n) _ _ Q (λ _ z. absurd (true≢false (sym z)))
    (λ _. cond_both (is_one_of (codes "head frame") n) _ _ Q (λ _ z. absurd (true≢false (sym z)))
    (λ _. cond_both (is_one_of (codes "option optgroup") n) _ _ Q (λ _ z. absurd (true≢false (sym z)))
    (λ _. cond_both (is_one_of G.elsewhere_names n) _ _ Q (λ _ z. absurd (true≢false (sym z)))
    (λ _ z. absurd (true≢false (sym z))))))))))))))))))))))))))))))

-- What isn't open around a place

pub record Fair (v : Bool) (outer : List Tag) : Type 0 where
  pub paragraph : P.within T.is_paragraph T.is_button_scope outer ≡ false
  pub item : P.within (T.is_any (codes "li")) (T.is_item_bound v) outer ≡ false
  pub description : P.within (T.is_any (codes "dd dt")) (T.is_item_bound v) outer ≡ false
  pub button : P.within (T.is_any (codes "button")) T.is_scope outer ≡ false
  pub nobr : P.within (T.is_any (codes "nobr")) T.is_scope outer ≡ false
  pub ruby : P.within (T.is_any (codes "ruby")) T.is_scope outer ≡ false
  pub select : P.within T.is_select T.is_scope outer ≡ false

module _ (v : Bool) (outer : List Tag) (fair : Fair v outer) (is : List Inner) (twins : AreTwins is) where
  pub no_paragraph : Y.in_p (names_of is) ≡ false → P.within T.is_paragraph T.is_button_scope (tags_of outer is) ≡ false
  no_paragraph h =
      none-within G.is_paragraph H.is_button_scope T.is_paragraph T.is_button_scope outer
      (λ i _ y. (facts i.own.name).paragraph ∙ y) (λ i k y. button_scope_is i k ∙ y) fair.paragraph is twins h

  pub no_item : P.within G.is_item Y.surely_ends (names_of is) ≡ false → P.within (T.is_any (codes "li")) (T.is_item_bound v) (tags_of outer is) ≡ false
  no_item h =
      none-within G.is_item Y.surely_ends (T.is_any (codes "li")) (T.is_item_bound v) outer
      (λ i _ y. (facts i.own.name).item ∙ y) (λ i _ y. bound_is v i y) fair.item is twins h

  pub no_description : P.within G.is_description Y.surely_ends (names_of is) ≡ false → P.within (T.is_any (codes "dd dt")) (T.is_item_bound v) (tags_of outer is) ≡ false
  no_description h =
      none-within G.is_description Y.surely_ends (T.is_any (codes "dd dt")) (T.is_item_bound v) outer
      (λ i _ y. (facts i.own.name).description ∙ y) (λ i _ y. bound_is v i y) fair.description is twins h

  pub no_button : (n : List ℕ) → G.group n ≡ G.a_button → P.within (bytes_eq n) H.is_scope (names_of is) ≡ false → P.within (T.is_any (codes "button")) T.is_scope (tags_of outer is) ≡ false
  no_button n e h =
      let is_button : n ≡ codes "button" = the_name (codes "button") n (sym (facts n).button ∙ ap is_button_group e) in
      none-within (bytes_eq n) H.is_scope (T.is_any (codes "button")) T.is_scope outer
      (λ i _ y. (bytes_eq-Decides n i.own.name).1 (is_button ∙ sym (the_name (codes "button") i.own.name y))) (λ i k y. scope_is i k ∙ y) fair.button is twins h

  pub no_nobr : (n : List ℕ) → G.group n ≡ G.a_nobr → P.within (bytes_eq n) H.is_scope (names_of is) ≡ false → P.within (T.is_named n) T.is_scope (tags_of outer is) ≡ false
  no_nobr n e h =
      let named : n ≡ codes "nobr" = the_name (codes "nobr") n (nobr_named n (ap is_nobr_group e)) in
      none-within (bytes_eq n) H.is_scope (T.is_named n) T.is_scope outer
      (λ i _ y. y) (λ i k y. scope_is i k ∙ y)
      (fewer-within (T.is_named n) (T.is_any (codes "nobr")) T.is_scope (λ t y. same_test t n named y) outer fair.nobr) is twins h
    where
      turned : (w m n : List ℕ) → n ≡ w → bytes_eq n m ≡ true → (bytes_eq m w || false) ≡ true
      turned w m n e y = ap (λ v. v || false) ((bytes_eq-Decides m w).1 (sym ((bytes_eq-Decides n m).0 y) ∙ e))

      both : (x y z : Bool) → (y ≡ true → z ≡ true) → (x && y) ≡ true → (x && z) ≡ true
      both true y z f h = f h
      both false y z f h = h

      same_test : (t : Tag) (n : List ℕ) → n ≡ codes "nobr" → T.is_named n t ≡ true → T.is_any (codes "nobr") t ≡ true
      same_test t n e y = both (T.is_html t) (bytes_eq n t.name) (is_one_of (codes "nobr") t.name) (turned (codes "nobr") t.name n e) y

  pub no_ruby : Y.in_ruby (names_of is) ≡ false → P.within (T.is_any (codes "ruby")) T.is_scope (tags_of outer is) ≡ false
  no_ruby h =
      none-within (is_one_of (codes "ruby")) H.is_scope (T.is_any (codes "ruby")) T.is_scope outer
      (λ i _ y. y) (λ i k y. scope_is i k ∙ y) fair.ruby is twins h

-- no `select` is among elements of a print
pub no_select : (v : Bool) (outer : List Tag) → Fair v outer → (is : List Inner) → AreTwins is → P.within T.is_select T.is_scope (tags_of outer is) ≡ false
no_select v outer fair [] h = fair.select
no_select v outer fair (i ∷ is) h =
    or_from (T.is_select (tag_in i)) (not (T.is_scope (tag_in i)) && P.within T.is_select T.is_scope (tags_of outer is))
    (false_from_ne_true (T.is_select (tag_in i)) (λ y. true≢false (sym h.0 ∙ ap (λ n. has_twin (G.group n)) (the_name (codes "select") i.own.name y))))
    (and_right (not (T.is_scope (tag_in i))) _ (no_select v outer fair is h.1))

-- Modes

-- the mode inside elements of a print, in this one around them
abbrev pub mode_at : B.Mode → P.Mode → B.Mode
mode_at m P.in_body = m
mode_at m P.in_table = B.in_table
mode_at m P.in_caption = B.in_caption
mode_at m P.in_column_group = B.in_column_group
mode_at m P.in_table_body = B.in_table_body
mode_at m P.in_row = B.in_row
mode_at m P.in_cell = B.in_cell

mode-inside : (b : B.Builder) (m : B.Mode) (g : G.Group) (pm : P.Mode) → has_twin g ≡ true → E.or_mode (E.mode_at b false (twin g)) (mode_at m pm) ≡ mode_at m (P.mode_by g pm)
mode-inside b m G.misplaced pm h = absurd (true≢false (sym h))
mode-inside b m G.an_option pm h = absurd (true≢false (sym h))
mode-inside b m G.elsewhere pm h = absurd (true≢false (sym h))
mode-inside b m _ pm h = refl

abbrev pub IsSome : List Tag → Type 0
IsSome [] = ⊥
IsSome (t ∷ ts) = ⊤

still-some : (outer : List Tag) → IsSome outer → (is : List Inner) → IsSome (tags_of outer is)
still-some outer h [] = h
still-some outer h (i ∷ is) = tt

mode-cons : (b : B.Builder) (t : Tag) (ts : List Tag) → IsSome ts → mode_tags b (t ∷ ts) ≡ E.or_mode (E.tag_mode b false t) (mode_tags b ts)
mode-cons b t [] h = absurd h
mode-cons b t (u ∷ us) h = refl

pub mode-reset : (b : B.Builder) (m : B.Mode) (outer : List Tag) → IsSome outer → mode_tags b outer ≡ m → (is : List Inner) → AreTwins is →
    mode_tags b (tags_of outer is) ≡ mode_at m (P.mode_of (names_of is))
mode-reset b m outer s e [] h = e
mode-reset b m outer s e (i ∷ is) h =
    mode-cons b (tag_in i) (tags_of outer is) (still-some outer s is)
    ∙ ap (E.or_mode (E.tag_mode b false (tag_in i))) (mode-reset b m outer s e is h.1)
    ∙ ap (λ g. E.or_mode (E.mode_at b false g) (mode_at m (P.mode_of (names_of is)))) ((facts i.own.name).twins h.0)
    ∙ mode-inside b m (G.group i.own.name) (P.mode_of (names_of is)) h.0
