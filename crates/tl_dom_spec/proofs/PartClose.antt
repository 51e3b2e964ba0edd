-- Elements are closed side by side, by the rules of "in body".
use Rattle.std.proofs.Common.{◌≡◌, ℕ, Bool, true, false, not, ◌||◌, ◌&&◌, List, [], ◌∷◌, map, codes, refl, ap, ap₂, sym, ◌∙◌, subst, inl, inr, true≢false, if◌then◌else◌}
use Rattle.std.proofs.lemmas.Bool.{cases_Bool, cond-false, cond-true}
use Rattle.tl_names.specs.Elements.{is_among, list_scope_bounds}
use Rattle.tl_html_spec.specs.Balanced as H
use Rattle.tl_tree_spec.specs.Builder as P
use Rattle.tl_tree_spec.specs.HtmlTreeBuilder as R
use Rattle.tl_tree_spec.specs.HtmlForest.{HtmlTag}
use Rattle.tl_tree_spec.specs.Groups as G
use Rattle.tl_dom_spec.specs.Tags as T
use Rattle.tl_dom_spec.specs.Tags.{Tag}
use Rattle.tl_dom_spec.specs.Path as W
use Rattle.tl_dom_spec.specs.Builder as B
use Rattle.tl_dom_spec.proofs.PartNames.{facts, has_twin, is_elsewhere}
use Rattle.tl_dom_spec.proofs.PartPaths.{AreSame, IsStack, frames_of, has_within, name_of, same_all, tag_of}
use Rattle.tl_dom_spec.proofs.PartBuilders.{Alike, Like, is_cell_or_caption}
use Rattle.tl_dom_spec.proofs.PartOps.{implied, popped_until}
use Rattle.tl_dom_spec.proofs.PartSound.{Popped, flow_top, group_of, implied_sound, implied_within, popped_sound, through_sound}
use Rattle.tl_dom_spec.proofs.PartSources.{has_within-bare, seen}

-- what bounds a scope

elsewhere_off : (g : G.Group) → has_twin g ≡ true → is_elsewhere g ≡ false
elsewhere_off G.elsewhere h = absurd (true≢false (sym h))
elsewhere_off _ h = refl

pub scope_same : (f : P.Frame) (os : List P.Frame) → IsStack f os → AreSame H.is_scope T.is_scope (f ∷ os)
scope_same f [] h = (ap H.is_scope h ∙ sym (ap (λ n. H.is_one_of T.scope_names n) h), tt)
scope_same f (o ∷ os) h = ((facts (name_of f)).scope (elsewhere_off (group_of f) h.0), scope_same o os h.1)

either_same : (test other : List ℕ → Bool) (tested others : Tag → Bool) (fs : List P.Frame) → ((own : HtmlTag) → other own.name ≡ others (tag_of own)) → AreSame test tested fs →
    AreSame (λ n. test n || other n) (λ t. tested t || others t) fs
either_same test other tested others [] e h = tt
either_same test other tested others (f ∷ fs) e h = (ap₂ (λ (x y : Bool). x || y) h.0 (e f.element.own), either_same test other tested others fs e h.1)

pub button_scope_same : (s : P.Stack) → IsStack s.current s.others → AreSame H.is_button_scope T.is_button_scope (frames_of s)
button_scope_same s h = either_same H.is_scope (H.is_one_of (codes "button")) T.is_scope (T.is_any (codes "button")) (frames_of s) (λ own. refl) (scope_same s.current s.others h)

pub list_scope_same : (s : P.Stack) → IsStack s.current s.others → AreSame H.is_list_scope T.is_list_scope (frames_of s)
list_scope_same s h =
    either_same H.is_scope (is_among list_scope_bounds) T.is_scope (T.is_any (codes "ol ul")) (frames_of s) (λ own. refl) (scope_same s.current s.others h)

-- none of these bounds lets a cell or a caption pass

no_cell : (bounds : List ℕ → Bool) → ((g : List ℕ) → is_cell_or_caption (G.group g) ≡ true → bounds g ≡ true) → (n : List ℕ) → bounds n ≡ false → is_cell_or_caption (G.group n) ≡ false
no_cell bounds all n h = elim (cases_Bool (is_cell_or_caption (G.group n))) [
  | inl y ↦ absurd (true≢false (sym (all n y) ∙ h))
  | inr m ↦ m
]

-- elements as names
pub within_elements : (test bounds : List ℕ → Bool) (es : List P.Element) →
    P.within (P.has_name test) (P.has_name bounds) es ≡ P.within test bounds (map (λ (e : P.Element). e.own.name) es)
within_elements test bounds [] = refl
within_elements test bounds (e ∷ es) = ap (λ v. test e.own.name || (not (bounds e.own.name) && v)) (within_elements test bounds es)

-- implied end tags but for some, and then all up to an element that is in a scope

-- how a test of names and one of elements go together with what is left out and what bounds them
pub record Closes (but test bounds : List ℕ → Bool) (excepted tested : Tag → Bool) : Type 0 where
  pub excepts : (own : HtmlTag) → but own.name ≡ excepted (tag_of own)
  pub tests : (own : HtmlTag) → test own.name ≡ tested (tag_of own)
  pub other : (n : List ℕ) → test n ≡ true → is_cell_or_caption (G.group n) ≡ false
  pub last : test (codes "html") ≡ false
  pub kept : (n : List ℕ) → test n ≡ true → (G.is_implied n && not (but n)) ≡ false
  pub cover : (n : List ℕ) → bounds n ≡ false → is_cell_or_caption (G.group n) ≡ false

pub close : {b : P.Builder} {c : B.Builder} (a : Alike b c) → P.is_flow b.mode ≡ true →
    (but test bounds : List ℕ → Bool) (excepted tested : Tag → Bool) → Closes but test bounds excepted tested →
    P.within test bounds (P.names b.stack) ≡ true →
    Alike (P.with_stack b (P.closed_through but test b.stack)) (B.close_except_for (seen excepted) (seen tested) c)
close {b = b} {c = c} a k but test bounds excepted tested o w =
    let h = a.sound in
    let elements : P.within (P.has_name test) (P.has_name bounds) (P.elements b.stack) ≡ true = within_elements test bounds (P.elements b.stack) ∙ w in
    let s : P.Stack = P.implied_closed but b.stack.current b.stack.others in
    let i : Popped (P.names b.stack) b.next b.active s = implied_sound b.next b.active but b.stack.current b.stack.others h.stack h.stand h.numbers (flow_top b h k) in
    let there = implied_within b.next b.active but (P.has_name test) (P.has_name bounds) (λ e. o.kept e.own.name) b.stack.current b.stack.others elements in
    let t = through_sound b.next b.active (P.has_name test) bounds o.cover (λ f z g. o.other (name_of f) z) (λ f e g. ap test e ∙ o.last) s.current s.others i.stack i.stand i.numbers i.top there in
    let closing : Like (P.with_stack b s) (B.generate_implied_end_tags_except_for (seen excepted) c) = implied a.like but excepted o.excepts h.stack in
    record {
      sound = popped_sound b (P.closed_through but test b.stack) h
          (record { stack = (t.1).stack; stand = (t.1).stand; numbers = (t.1).numbers; mode = (t.1).mode ∙ i.mode; top = (t.1).top });
      like = popped_until closing test tested o.tests t.0;
    }

-- where it is in that scope, else nothing
pub close_in : {b : P.Builder} {c : B.Builder} (a : Alike b c) → P.is_flow b.mode ≡ true →
    (but test bounds : List ℕ → Bool) (excepted tested bounded : Tag → Bool) → Closes but test bounds excepted tested →
    AreSame bounds bounded (frames_of b.stack) →
    Alike (R.closed_in bounds but test b) (if W.has_within (seen tested) (seen bounded) c.path then B.close_except_for (seen excepted) (seen tested) c else c)
close_in {b = b} {c = c} a k but test bounds excepted tested bounded o same =
    let e : W.has_within (seen tested) (seen bounded) c.path ≡ P.within test bounds (P.names b.stack) =
    has_within-bare tested bounded c.path ∙ ap (W.has_within tested bounded) (a.like).path ∙ has_within test bounds tested bounded b.stack (same_all test tested o.tests (frames_of b.stack)) same in
    elim (cases_Bool (P.within test bounds (P.names b.stack))) [
      | inl y ↦ subst (λ (r : P.Builder). Alike r (if W.has_within (seen tested) (seen bounded) c.path then B.close_except_for (seen excepted) (seen tested) c else c)) (sym (cond-true _ _ _ y))
          (subst (Alike (P.with_stack b (P.closed_through but test b.stack))) (sym (cond-true _ _ _ (e ∙ y))) (close a k but test bounds excepted tested o y))
      | inr n ↦ subst (λ (r : P.Builder). Alike r (if W.has_within (seen tested) (seen bounded) c.path then B.close_except_for (seen excepted) (seen tested) c else c)) (sym (cond-false _ _ _ n))
          (subst (Alike b) (sym (cond-false _ _ _ (e ∙ n))) a)
    ]
