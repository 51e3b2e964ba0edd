-- Where markup is read, and which forms reach there, over plain values.
use Rattle.std.proofs.Common.{Bool, List, None, Option, Some, [], ap, codes, false, get_or, length, map, nat_lt, refl, subst, suc, sym, take, true, ℕ, ◌+◌, ◌++◌, ◌<◌, ◌≡◌, ◌∙◌, ◌∷◌}
use Rattle.std.proofs.lemmas.Grind.{flat_map-append}
use Rattle.std.proofs.lemmas.List.{append-nil, map-append, take_more}
use Rattle.std.proofs.lemmas.List.Concat.{flat_map-cons}
use Rattle.std.specs.List.{flat_map}
use Rattle.std.specs.Borrow.{Bor}
use Rattle.std.specs.Option.{option_and_then, option_copied, option_map, unwrap_or}
use Rattle.std.specs.Prelude.{◌&&◌}
use Rattle.tl_dom_spec.specs.Tags.{Attribute, Tag, bare_tag}
use Rattle.tl_tree.specs.Asked.{attributes_of, name_of, namespace_of, node_at}
use Rattle.tl_tree.specs.Inner.Store.{space_of}
use Rattle.tl_tree.specs.Rows.{Node, Row}
use Rattle.tl_tree.specs.declared.entries.Namespace.{Namespace}
use Rattle.tl_tree.specs.declared.entries.Namespace.TheVariants.{Html}
use Rattle.tl_tree_edit.proofs.Held.{read_by_html, read_by_none, read_by_other, tag_asked, tag_by}
use Rattle.tl_tree_edit.specs.Operations.{context_attributes, forms_end, is_in_form, is_named, node_held, read_by, tag_for}

pub copied : (r : Option (Bor (List ℕ))) (d : Bor (List ℕ)) → (unwrap_or r d).now ≡ unwrap_or (option_copied r) d.now
copied None d = refl
copied (Some b) d = refl

-- a tag by what is asked of a node
pub asked : (node : Option Node) (space : Namespace) (name : List ℕ) (attributes : List Attribute) → space ≡ unwrap_or (option_and_then namespace_of node) Html → name ≡ unwrap_or (option_and_then name_of node) (codes "body") → attributes ≡ context_attributes (option_and_then namespace_of node) (unwrap_or (option_map attributes_of node) []) → tag_by (space_of space) name attributes ≡ tag_for node
asked node space name attributes s n a =
    ap (λ (x : Namespace). tag_by (space_of x) name attributes) s
    ∙ (ap (λ (x : List ℕ). tag_by (space_of (unwrap_or (option_and_then namespace_of node) Html)) x attributes) n
    ∙ (ap (λ (x : List Attribute). tag_by (space_of (unwrap_or (option_and_then namespace_of node) Html)) (unwrap_or (option_and_then name_of node) (codes "body")) x) a
    ∙ tag_asked node))

pub held_none : (P : Tag → Type 0) (rows : List Row) (h : Option ℕ) (is : Bool) → h ≡ None → P (bare_tag (codes "body")) → P (tag_for (read_by is (node_held rows h)))
held_none P rows h is e p =
    subst P (sym (ap (λ (x : Option ℕ). tag_for (read_by is (node_held rows x))) e ∙ ap tag_for (read_by_none is))) p

pub both : (is r b : Bool) → is ≡ true → r ≡ b → r ≡ true → is && b ≡ true
both is r b i e t = rw i (sym e ∙ t)

pub not_second : (is r b : Bool) → is ≡ true → r ≡ b → r ≡ false → is && b ≡ false
not_second is r b i e t = rw i (sym e ∙ t)

pub not_first : (is b : Bool) → is ≡ false → is && b ≡ false
not_first is b i = rw i refl

pub held_html : (P : Tag → Type 0) (rows : List Row) (h : Option ℕ) (n : ℕ) (is : Bool) → h ≡ Some n → is && is_named (codes "html") (node_at rows n) ≡ true → P (bare_tag (codes "body")) → P (tag_for (read_by is (node_held rows h)))
held_html P rows h n is e t p =
    subst P (sym (ap (λ (x : Option ℕ). tag_for (read_by is (node_held rows x))) e ∙ ap tag_for (read_by_html is (node_at rows n) t))) p

pub held_other : (P : Tag → Type 0) (rows : List Row) (h : Option ℕ) (n : ℕ) (is : Bool) → h ≡ Some n → is && is_named (codes "html") (node_at rows n) ≡ false → P (tag_for (node_at rows n)) → P (tag_for (read_by is (node_held rows h)))
held_other P rows h n is e t p =
    subst P (sym (ap (λ (x : Option ℕ). tag_for (read_by is (node_held rows x))) e ∙ ap tag_for (read_by_other is (node_at rows n) t))) p

pub inside : (rows : List Row) (n next end : ℕ) → nat_lt n (length rows) ≡ true → next ≡ suc n → end ≡ forms_end rows next → nat_lt n end ≡ is_in_form rows n
inside rows n next end l s e = rw l (ap (nat_lt n) (e ∙ ap (forms_end rows) s))

-- one more of a list by the numbers so far
pub one_more : {A B : Type 0} (g : A → B) (h : ℕ → B) (own new : List A) (x : A) (ns : List ℕ) (i : ℕ) → map g own ≡ map h (take i ns) → new ≡ own ++ x ∷ [] → i < length ns → g x ≡ h (get_or ns i 0) → map g new ≡ map h (take (i + 1) ns)
one_more g h own new x ns i so is lt e =
    let a = map-append g own (x ∷ []) in
    let b = map-append h (take i ns) (get_or ns i 0 ∷ []) in
    ap (map g) is ∙ (a ∙ (ap (λ ys. ys ++ g x ∷ []) so ∙ (ap (λ y. map h (take i ns) ++ y ∷ []) e ∙ sym (ap (map h) (take_more ns i 0 lt) ∙ b))))

-- one more of a list of lists by the numbers so far
pub some_more : {A B : Type 0} (g : A → B) (h : ℕ → List B) (own new : List A) (ns : List ℕ) (i : ℕ) → map g own ≡ flat_map h (take i ns) → map g new ≡ map g own ++ h (get_or ns i 0) → i < length ns → map g new ≡ flat_map h (take (i + 1) ns)
some_more g h own new ns i so is lt =
    let n = get_or ns i 0 in
    let more = flat_map-append h (take i ns) (n ∷ []) in
    let one = flat_map-cons h n [] ∙ append-nil (h n) in
    is ∙ (ap (λ ys. ys ++ h n) so ∙ (ap (λ ys. flat_map h (take i ns) ++ ys) (sym one) ∙ (sym more ∙ sym (ap (flat_map h) (take_more ns i 0 lt)))))
