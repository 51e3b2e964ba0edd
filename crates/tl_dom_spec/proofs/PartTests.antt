-- The tests by which elements are closed, side by side.
use Rattle.std.proofs.Common.{◌≡◌, ◌⊎◌, ℕ, Bool, true, false, not, ◌||◌, ◌&&◌, List, [], ◌∷◌, codes, refl, ap, sym, ◌∙◌, subst, inl, inr, true≢false}
use Rattle.std.specs.Prelude.{⊤}
use Rattle.std.specs.List.{list_any}
use Rattle.std.specs.Str.{bytes_eq}
use Rattle.std.proofs.lemmas.Bool.{and_right, cases_Bool, false_from_ne_true}
use Rattle.std.proofs.lemmas.Slice.Eq.{bytes_eq-Decides}
use Rattle.tl_html_spec.specs.Balanced.{is_button_scope, is_list_scope, is_scope, words}
use Rattle.tl_tree_spec.specs.Builder as P
use Rattle.tl_tree_spec.specs.HtmlTreeBuilder as R
use Rattle.tl_tree_spec.specs.Groups as G
use Rattle.tl_tree_spec.specs.HtmlForest.{HtmlTag}
use Rattle.tl_dom_spec.specs.Tags as T
use Rattle.tl_dom_spec.specs.Tags.{Tag}
use Rattle.tl_dom_spec.proofs.PartNames.{facts}
use Rattle.tl_dom_spec.proofs.PartPaths.{tag_of}
use Rattle.tl_dom_spec.proofs.PartBuilders.{is_cell_or_caption}
use Rattle.tl_dom_spec.proofs.PartClose.{Closes}

-- a name among some

abbrev pub AllHold : (List ℕ → Type 0) → List (List ℕ) → Type 0
AllHold P [] = ⊤
AllHold P (w ∷ ws) = P w × AllHold P ws

pub each_name : (P : List ℕ → Type 0) (n : List ℕ) (ws : List (List ℕ)) → AllHold P ws → list_any (bytes_eq n) ws ≡ true → P n
each_name P n [] h k = absurd (true≢false (sym k))
each_name P n (w ∷ ws) h k = elim (cases_Bool (bytes_eq n w)) [
  | inl y ↦ subst P (sym ((bytes_eq-Decides n w).0 y)) h.0
  | inr m ↦ each_name P n ws h.1 (sym (ap (λ v. v || list_any (bytes_eq n) ws) m) ∙ k)
]

pub same_name : (a c : List ℕ) → bytes_eq a c ≡ true → a ≡ c
same_name a c h = (bytes_eq-Decides a c).0 h

-- whichever way they are compared
pub turned : (a c : List ℕ) → bytes_eq a c ≡ bytes_eq c a
turned a c = elim (cases_Bool (bytes_eq a c)) [
  | inl y ↦ y ∙ sym ((bytes_eq-Decides c a).1 (sym (same_name a c y)))
  | inr n ↦ n ∙ sym (false_from_ne_true (bytes_eq c a) (λ y. true≢false (sym ((bytes_eq-Decides a c).1 (sym (same_name c a y))) ∙ n)))
]

-- what bounds a search stands around cells and captions too

cell_or_caption : (g : G.Group) → is_cell_or_caption g ≡ true → (G.is_cell_group g || G.is_caption_group g) ≡ true
cell_or_caption G.a_cell h = refl
cell_or_caption G.a_caption h = refl
cell_or_caption _ h = absurd (true≢false (sym h))

abbrev Bounded : (List ℕ → Bool) → List ℕ → Type 0
Bounded bounds n = bounds n ≡ true

pub covers : (bounds : List ℕ → Bool) → AllHold (Bounded bounds) (words (codes "td th")) → AllHold (Bounded bounds) (words (codes "caption")) →
    (n : List ℕ) → bounds n ≡ false → is_cell_or_caption (G.group n) ≡ false
covers bounds cells captions n h = false_from_ne_true (is_cell_or_caption (G.group n)) (λ y. true≢false (sym (found (cases_Bool (G.is_cell n)) (cell_or_caption (G.group n) y)) ∙ h))
  where
    found : (G.is_cell n ≡ true) ⊎ (G.is_cell n ≡ false) → (G.is_cell n || G.is_caption n) ≡ true → bounds n ≡ true
    found (inl y) k = each_name (Bounded bounds) n (words (codes "td th")) cells (sym (facts n).cell ∙ y)
    found (inr m) k = each_name (Bounded bounds) n (words (codes "caption")) captions (sym (facts n).caption ∙ sym (ap (λ v. v || G.is_caption n) m) ∙ k)

pub scope_covers : (n : List ℕ) → is_scope n ≡ false → is_cell_or_caption (G.group n) ≡ false
scope_covers = covers is_scope (refl, (refl, tt)) (refl, tt)

pub button_scope_covers : (n : List ℕ) → is_button_scope n ≡ false → is_cell_or_caption (G.group n) ≡ false
button_scope_covers = covers is_button_scope (refl, (refl, tt)) (refl, tt)

pub list_scope_covers : (n : List ℕ) → is_list_scope n ≡ false → is_cell_or_caption (G.group n) ≡ false
list_scope_covers = covers is_list_scope (refl, (refl, tt)) (refl, tt)

either : (v : Bool) → (v || true) ≡ true
either true = refl
either false = refl

pub special_covers : (b : P.Builder) (n : List ℕ) → R.is_special_in b n ≡ false → is_cell_or_caption (G.group n) ≡ false
special_covers b = covers (R.is_special_in b) (either b.reading.counts_search, (either b.reading.counts_search, tt)) (either b.reading.counts_search, tt)

pub item_bound_covers : (b : P.Builder) (n : List ℕ) → R.is_item_bound_in b n ≡ false → is_cell_or_caption (G.group n) ≡ false
item_bound_covers b = covers (R.is_item_bound_in b) (either b.reading.counts_search, (either b.reading.counts_search, tt)) (either b.reading.counts_search, tt)

-- groups that a test holds of

abbrev IsApart : (G.Group → Bool) → Type 0
IsApart test = (g : G.Group) → test g ≡ true → is_cell_or_caption g ≡ false

paragraph_apart : IsApart G.is_paragraph_group
paragraph_apart G.a_paragraph h = refl
paragraph_apart _ h = absurd (true≢false (sym h))

heading_apart : IsApart G.is_heading_group
heading_apart G.a_heading h = refl
heading_apart _ h = absurd (true≢false (sym h))

heading_not_implied : (g : G.Group) → G.is_heading_group g ≡ true → G.is_implied_group g ≡ false
heading_not_implied G.a_heading h = refl
heading_not_implied _ h = absurd (true≢false (sym h))

item_apart : IsApart G.is_item_group
item_apart G.an_item h = refl
item_apart _ h = absurd (true≢false (sym h))

-- a test that is left out itself
left_out : (x y : Bool) → y ≡ true → (x && not y) ≡ false
left_out x y h = and_right x (not y) (ap not h)

not_implied : (x y : Bool) → x ≡ false → (x && y) ≡ false
not_implied x y h = ap (λ v. v && y) h

pub closes_p : Closes G.is_paragraph G.is_paragraph is_button_scope T.is_paragraph T.is_paragraph
closes_p = record {
  excepts = λ own. (facts own.name).paragraph;
  tests = λ own. (facts own.name).paragraph;
  other = λ n h. paragraph_apart (G.group n) h;
  last = refl;
  kept = λ n h. left_out (G.is_implied n) (G.is_paragraph n) h;
  cover = button_scope_covers;
}

pub closes_item : (bounds : List ℕ → Bool) (tested : Tag → Bool) → ((own : HtmlTag) → G.is_item own.name ≡ tested (tag_of own)) →
    ((n : List ℕ) → bounds n ≡ false → is_cell_or_caption (G.group n) ≡ false) → Closes G.is_item G.is_item bounds tested tested
closes_item bounds tested same cover = record {
  excepts = same;
  tests = same;
  other = λ n h. item_apart (G.group n) h;
  last = refl;
  kept = λ n h. left_out (G.is_implied n) (G.is_item n) h;
  cover = cover;
}

pub closes_heading : Closes P.no_name G.is_heading is_scope T.no_tag T.is_heading
closes_heading = record {
  excepts = λ own. refl;
  tests = λ own. (facts own.name).heading;
  other = λ n h. heading_apart (G.group n) h;
  last = refl;
  kept = λ n h. not_implied (G.is_implied n) true (heading_not_implied (G.group n) h);
  cover = scope_covers;
}

-- elements of one name, which is left out itself
pub closes_named : (m : List ℕ) (bounds : List ℕ → Bool) → is_cell_or_caption (G.group m) ≡ false → bytes_eq m (codes "html") ≡ false →
    ((n : List ℕ) → bounds n ≡ false → is_cell_or_caption (G.group n) ≡ false) → Closes (bytes_eq m) (bytes_eq m) bounds (T.is_named m) (T.is_named m)
closes_named m bounds apart last cover = record {
  excepts = λ own. refl;
  tests = λ own. refl;
  other = λ n h. ap (λ x. is_cell_or_caption (G.group x)) (sym (same_name m n h)) ∙ apart;
  last = last;
  kept = λ n h. left_out (G.is_implied n) (bytes_eq m n) h;
  cover = cover;
}

-- or none is, as its end tag isn't implied
pub closes_block : (m : List ℕ) (bounds : List ℕ → Bool) (tested : Tag → Bool) → ((own : HtmlTag) → bytes_eq m own.name ≡ tested (tag_of own)) →
    is_cell_or_caption (G.group m) ≡ false → G.is_implied m ≡ false → bytes_eq m (codes "html") ≡ false →
    ((n : List ℕ) → bounds n ≡ false → is_cell_or_caption (G.group n) ≡ false) → Closes P.no_name (bytes_eq m) bounds T.no_tag tested
closes_block m bounds tested same apart implied last cover = record {
  excepts = λ own. refl;
  tests = same;
  other = λ n h. ap (λ x. is_cell_or_caption (G.group x)) (sym (same_name m n h)) ∙ apart;
  last = last;
  kept = λ n h. not_implied (G.is_implied n) true (ap G.is_implied (sym (same_name m n h)) ∙ implied);
  cover = cover;
}

-- a name of a group that isn't that of `html`
pub not_html : (m : List ℕ) → ((G.group m ≡ G.elsewhere) → ⊥) → bytes_eq m (codes "html") ≡ false
not_html m h = false_from_ne_true (bytes_eq m (codes "html")) (λ y. h (ap G.group (same_name m (codes "html") y)))
