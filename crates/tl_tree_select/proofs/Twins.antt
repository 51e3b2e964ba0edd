-- Links to the sibling before of the same name.
use Rattle.std.proofs.Common.{◌≡◌, ◌<◌, ◌↔◌, ◌+◌, ◌++◌, ◌∷◌, [], ℕ, List, Bool, true, false, cond, length, sym, ap, ◌∙◌, arith, refl, subst, Option, None, Some, IfSome, option_and_then, option_map, unwrap_or}
use Rattle.std.specs.BTreeMap.{BTreeMap, get, is_at}
use Rattle.std.specs.Option.{option_map_or}
use Rattle.std.specs.Map.{lookup}
use Rattle.std.specs.Ordering.{nat_cmp, is_eq, ordering_then}
use Rattle.std.specs.declared.cmp.Ordering.{Ordering}
use Rattle.std.specs.declared.cmp.Ordering.TheVariants.{Less, Equal, Greater}
use Rattle.std.specs.Cmp.{IsTotalOrder}
use Rattle.std.specs.Cmp.Lexicographic.{slice_cmp}
use Rattle.std.proofs.lemmas.Cmp.{tied_itself, nat_cmp_total, nat_list_cmp_total, on_total, then_total}
use Rattle.std.proofs.lemmas.Map.Lookups.{exact_pairs, exact_unsigned, exact_bytes}
use Rattle.std.proofs.lemmas.Bool.{false≢true}
use Rattle.std.proofs.lemmas.Option.{none-some, same_Some}
use Rattle.tl_dom_spec.specs.Tags as dom
use Rattle.tl_tree.specs.Asked.{node_at}
use Rattle.tl_tree_select.specs.Page.{Page}
use Rattle.tl_css.specs.declared.selector.Link.TheVariants.{Twin}
use Rattle.tl_tree_select.specs.Meaning.{AreNamesakes, expanded_name}
use Rattle.tl_tree_select.specs.declared.twin.TwinGroup.{TwinGroup}
use Rattle.tl_tree_select.specs.Inner.Links.{AreGrouped, IsLatest, link_at, link_or_none, no_link}
use Rattle.tl_tree_select.specs.Inner.Kin.{AreLinksOf, AreSiblingGroups, name_at, numbered_name, space_number, twin_group}
use Rattle.tl_tree_select.specs.Inner.Twin.{parts, twin_cmp}
use Rattle.tl_tree_select.proofs.Sources.{link_within}
use Rattle.tl_tree_select.proofs.Previous.{AreLatest, IsLatest-here, IsLatest-more, all_latest, link_is, none_latest, one_latest}
use Rattle.tl_tree_select.proofs.Siblings.{links_to_last}

-- Groups that compare alike are one

twin_total : IsTotalOrder twin_cmp
twin_total =
    then_total (on_total (λ g. g.siblings) nat_cmp_total)
    (then_total (on_total (λ g. g.space) nat_cmp_total) (on_total (λ g. g.name.now) nat_list_cmp_total))

is_eq_true : (o : Ordering) → is_eq o ≡ true → o ≡ Equal
is_eq_true Less e = absurd (false≢true e)
is_eq_true Equal e = refl
is_eq_true Greater e = absurd (false≢true e)

abbrev Parts : Type 0
Parts = ℕ × (ℕ × List ℕ)

name_cmp : ℕ × List ℕ → ℕ × List ℕ → Ordering
name_cmp a b = ordering_then (nat_cmp a.0 b.0) (slice_cmp nat_cmp a.1 b.1)

part_cmp : Parts → Parts → Ordering
part_cmp a b = ordering_then (nat_cmp a.0 b.0) (name_cmp a.1 b.1)

alike : (g q : TwinGroup) → is_at (twin_cmp g) q ≡ true → parts g ≡ parts q
unfolding name_cmp
alike g q e =
    exact_pairs nat_cmp name_cmp exact_unsigned (exact_pairs nat_cmp (slice_cmp nat_cmp) exact_unsigned exact_bytes) (parts g) (parts q)
    (is_eq_true (twin_cmp g q) e)

unlike : (g q : TwinGroup) → is_at (twin_cmp g) q ≡ false → parts g ≡ parts q → ⊥
unfolding part_cmp name_cmp
unlike g q e same =
    let tied : twin_cmp g g ≡ Equal = tied_itself twin_total g in
    let moved : part_cmp (parts g) (parts q) ≡ part_cmp (parts g) (parts g) = ap (part_cmp (parts g)) (sym same) in
    let equal : twin_cmp g q ≡ Equal = moved ∙ tied in
    false≢true (sym e ∙ ap is_eq equal)

-- Twins are those of one group

same_space : (a b : dom.Namespace) → space_number a ≡ space_number b → a ≡ b
same_space dom.html_space dom.html_space e = refl
same_space dom.html_space dom.math_space e = absurd (omega (arith, e))
same_space dom.html_space dom.svg_space e = absurd (omega (arith, e))
same_space dom.math_space dom.html_space e = absurd (omega (arith, e))
same_space dom.math_space dom.math_space e = refl
same_space dom.math_space dom.svg_space e = absurd (omega (arith, e))
same_space dom.svg_space dom.html_space e = absurd (omega (arith, e))
same_space dom.svg_space dom.math_space e = absurd (omega (arith, e))
same_space dom.svg_space dom.svg_space e = refl

abbrev Expanded : Type 0
Expanded = dom.Namespace × List ℕ

same_name : (a b : Expanded) → numbered_name a ≡ numbered_name b → a ≡ b
same_name (s, x) (t, y) e =
    let spaces : s ≡ t = same_space s t (ap (λ (p : ℕ × List ℕ). p.0) e) in
    let names : x ≡ y = ap (λ (p : ℕ × List ℕ). p.1) e in
    (λ i. (spaces i, names i))

-- a name by its number
by_number : (o : Option Expanded) (g : ℕ × List ℕ) → option_map numbered_name o ≡ Some g → (name : Expanded) × (o ≡ Some name) × (numbered_name name ≡ g)
by_number None g e = absurd (none-some g e)
by_number (Some name) g e = (name, refl, same_Some (numbered_name name) g e)

-- a group by its parts
pub record IsTwinGroup (page : Page) (groups : List ℕ) (n : ℕ) (g : Parts) : Type 0 where
  pub siblings : link_at groups n ≡ Some g.0
  pub named : name_at page n ≡ Some g.1

group_by : (page : Page) (groups : List ℕ) (n : ℕ) (s : Option ℕ) (a : Option (ℕ × List ℕ)) (g : Parts) → link_at groups n ≡ s → name_at page n ≡ a
    → option_and_then (λ (g : ℕ). option_map (λ (name : ℕ × List ℕ). (g, name)) a) s ≡ Some g → IsTwinGroup page groups n g
group_by page groups n None a g es ea e = absurd (none-some g e)
group_by page groups n (Some s) None g es ea e = absurd (none-some g e)
group_by page groups n (Some s) (Some own) g es ea e =
    let same : (s, own) ≡ g = same_Some (s, own) g e in
    record {
      siblings = es ∙ ap (λ (p : Parts). Some p.0) same;
      named = ea ∙ ap (λ (p : Parts). Some p.1) same;
    }

is_group : (page : Page) (groups : List ℕ) (n : ℕ) (g : Parts) → twin_group page groups n ≡ Some g → IsTwinGroup page groups n g
is_group page groups n g e = group_by page groups n (link_at groups n) (name_at page n) g refl refl e

grouped_by : Option ℕ → Option (ℕ × List ℕ) → Option Parts
grouped_by s a = option_and_then (λ (g : ℕ). option_map (λ (name : ℕ × List ℕ). (g, name)) a) s

has_group : (page : Page) (groups : List ℕ) (n : ℕ) (g : ℕ) (name : ℕ × List ℕ) → link_at groups n ≡ Some g → name_at page n ≡ Some name → twin_group page groups n ≡ Some (g, name)
unfolding grouped_by
has_group page groups n g name e h =
    ap (λ (o : Option ℕ). grouped_by o (name_at page n)) e ∙ ap (grouped_by (Some g)) h

grouped_twins : (page : Page) (groups : List ℕ) (m n : ℕ) → AreGrouped (twin_group page groups) m n ↔ (AreGrouped (link_at groups) m n × AreNamesakes page m n)
grouped_twins page groups m n = (
  λ h.
      let a = is_group page groups m h.0 h.1 in
      let b = is_group page groups n h.0 h.2 in
      let p = by_number (option_and_then expanded_name (node_at page.rows m)) h.0.1 a.named in
      let q = by_number (option_and_then expanded_name (node_at page.rows n)) h.0.1 b.named in
      let same : q.0 ≡ p.0 = same_name q.0 p.0 (q.2 ∙ sym p.2) in
      ((h.0.0, a.siblings, b.siblings), (p.0, p.1, q.1 ∙ ap Some same)),
  λ h. (
    (h.0.0, numbered_name h.1.0),
    has_group page groups m h.0.0 (numbered_name h.1.0) h.0.1 (ap (option_map numbered_name) h.1.1),
    has_group page groups n h.0.0 (numbered_name h.1.0) h.0.2 (ap (option_map numbered_name) h.1.2),
  ),
)

-- The loop over all numbers

pub record Twinned (page : Page) (groups : List ℕ) (number : ℕ) (links : List ℕ) (latest : BTreeMap TwinGroup ℕ) : Type 0 where
  pub last : (q : TwinGroup) → IsLatest (twin_group page groups) number (parts q) (get twin_cmp latest q)
  pub linked : AreLatest (twin_group page groups) number links

pub none_twinned : (page : Page) (groups links : List ℕ) (latest : BTreeMap TwinGroup ℕ) → links ≡ [] → latest.entries ≡ [] → Twinned page groups 0 links latest
none_twinned page groups links latest none empty = record {
  last = λ q. none_at q (get twin_cmp latest q) (ap (λ (es : List (TwinGroup × ℕ)). entry_at q es) empty);
  linked = subst (λ (links : List ℕ). AreLatest (twin_group page groups) 0 links) (sym none) (none_latest (twin_group page groups));
}
  where
    entry_at : TwinGroup → List (TwinGroup × ℕ) → Option ℕ
    entry_at q es = lookup (is_at (twin_cmp q)) es

    none_at : (q : TwinGroup) (o : Option ℕ) → o ≡ None → IsLatest (twin_group page groups) 0 (parts q) o
    none_at q None e = λ k lt h. omega (arith, lt)
    none_at q (Some m) e = cc

module _ (page : Page) (groups : List ℕ) (number : ℕ) (small : number < no_link) (links : List ℕ) (latest new : BTreeMap TwinGroup ℕ)
    (twinned : Twinned page groups number links latest) where
  link_of : (o : Option ℕ) → IfSome o (λ m. m < number) → link_or_none (unwrap_or o no_link) ≡ o
  link_of None h = refl
  link_of (Some m) h = link_is m (omega (arith, h, small))

  below : (q : TwinGroup) (o : Option ℕ) → IsLatest (twin_group page groups) number (parts q) o → IfSome o (λ m. m < number)
  below q None h = tt
  below q (Some m) h = h.0

  module _ (group : Option TwinGroup) (at : option_map parts group ≡ twin_group page groups number)
      (is : (q : TwinGroup) → get twin_cmp new q ≡ option_map_or (λ g. cond (is_at (twin_cmp g) q) (Some number) (get twin_cmp latest q)) group (get twin_cmp latest q)) where
    later : (group : Option TwinGroup) → option_map parts group ≡ twin_group page groups number → (q : TwinGroup) → (b : Option Bool) → option_map (λ g. is_at (twin_cmp g) q) group ≡ b
        → IsLatest (twin_group page groups) (number + 1) (parts q) (option_map_or (λ g. cond (is_at (twin_cmp g) q) (Some number) (get twin_cmp latest q)) group (get twin_cmp latest q))
    later None at q b e = IsLatest-more (twin_group page groups) number (parts q) _ (twinned.last q) (λ h. let both : None ≡ Some (parts q) = at ∙ h in cc)
    later (Some g) at q None e = cc
    later (Some g) at q (Some true) e =
        let here : is_at (twin_cmp g) q ≡ true = cc in
        subst (λ (b : Bool). IsLatest (twin_group page groups) (number + 1) (parts q) (cond b (Some number) (get twin_cmp latest q))) (sym here)
        (IsLatest-here (twin_group page groups) number (parts q) (sym at ∙ ap Some (alike g q here)))
    later (Some g) at q (Some false) e =
        let other : is_at (twin_cmp g) q ≡ false = cc in
        subst (λ (b : Bool). IsLatest (twin_group page groups) (number + 1) (parts q) (cond b (Some number) (get twin_cmp latest q))) (sym other)
        (IsLatest-more (twin_group page groups) number (parts q) _ (twinned.last q) (λ h. unlike g q other (let both : Some (parts g) ≡ Some (parts q) = at ∙ h in cc)))

    was : Option TwinGroup → ℕ
    was group = unwrap_or (option_and_then (get twin_cmp latest) group) no_link

    here : (group : Option TwinGroup) → IfSome (option_map parts group) (λ g. IsLatest (twin_group page groups) number g (link_or_none (was group)))
    unfolding was
    here None = tt
    here (Some g) = subst (λ (o : Option ℕ). IsLatest (twin_group page groups) number (parts g) o)
        (sym (link_of (get twin_cmp latest g) (below g (get twin_cmp latest g) (twinned.last g)))) (twinned.last g)

    none_here : (group : Option TwinGroup) → option_map parts group ≡ None → link_or_none (was group) ≡ None
    unfolding was
    none_here None e = refl
    none_here (Some g) e = cc

    pub one_twinned : (x : ℕ) → x ≡ unwrap_or (option_and_then (get twin_cmp latest) group) no_link → Twinned page groups (number + 1) (links ++ x ∷ []) new
    unfolding was
    one_twinned x e = record {
      last = λ q. subst (λ (o : Option ℕ). IsLatest (twin_group page groups) (number + 1) (parts q) o) (sym (is q)) (later group at q (option_map (λ g. is_at (twin_cmp g) q) group) refl);
      linked = subst (λ (x : ℕ). AreLatest (twin_group page groups) (number + 1) (links ++ x ∷ [])) (sym e)
          (one_latest (twin_group page groups) number links (was group) twinned.linked
          (subst (λ (o : Option Parts). IfSome o (λ g. IsLatest (twin_group page groups) number g (link_or_none (was group)))) at (here group))
          (λ none. none_here group (at ∙ none)));
    }

pub all_twinned : (page : Page) (groups links : List ℕ) (latest : BTreeMap TwinGroup ℕ) → AreSiblingGroups page groups
    → Twinned page groups (length page.rows) links latest → AreLinksOf page Twin links
all_twinned page groups links latest are twinned =
    links_to_last page Twin (AreGrouped (twin_group page groups)) links twinned.linked.len
    (λ m n. (
      λ h. (let t = (grouped_twins page groups m n).0 h.1 in (h.0, (are.grouped m n).0 t.0, t.1)),
      λ h. (h.0, (grouped_twins page groups m n).1 ((are.grouped m n).1 h.1, h.2)),
    ))
    (all_latest (twin_group page groups) (length page.rows)
    (λ n g e. (let i = is_group page groups n g e in let w = link_within groups n g.0 i.siblings in omega (arith, w, are.len)))
    links twinned.linked)
