-- Which tags of a store are those of a `template`.
use Rattle.std.proofs.Common.{Bool, IsTrue, List, [], ap, arith, codes, false, get_or, length, map, refl, subst, suc, sym, true, zero, ℕ, ◌<◌, ◌∙◌, ◌≡◌, ◌||◌, ◌∷◌}
use Rattle.std.proofs.lemmas.Bool.{ltb-true}
use Rattle.std.specs.Str.{bytes_eq}
use Rattle.tl_dom_spec.specs.HtmlForest.{has_contents}
use Rattle.tl_dom_spec.specs.Tags as dom
use Rattle.tl_tree.specs.Inner.Store.{bytes_of, is_tag_number, space_of, tag_at, tag_of}
use Rattle.tl_tree.specs.declared.entries.Namespace.{Namespace}
use Rattle.tl_tree.specs.declared.entries.Namespace.TheVariants.{Html, Math, Svg}
use Rattle.tl_tree.specs.declared.entries.TagEntry.{TagEntry}
use Rattle.tl_tree.specs.declared.store.Store.{Store}

get-map : {A B : Type 0} (f : A → B) (xs : List A) (n : ℕ) (x : A) (d : B) → n < length xs → x ≡ get_or xs n x → get_or (map f xs) n d ≡ f x
get-map f [] n x d l e = absurd (let g : ⊥ = omega (arith, l) in g)
get-map f (own ∷ xs) zero x d l e = ap f (sym e)
get-map f (own ∷ xs) (suc n) x d l e = get-map f xs n x d (omega (arith, l)) e

pub tag-is : (s : Store) (n : ℕ) (entry : TagEntry) → IsTrue (is_tag_number s n) → entry ≡ get_or s.tags.items n entry → tag_at s n ≡ tag_of s entry
unfolding tag_at
tag-is s n entry h e = get-map (tag_of s) s.tags.items n entry (dom.bare_tag []) (ltb-true n (length s.tags.items) h) e

or-none : (b : Bool) → (b || false) ≡ b
or-none true = refl
or-none false = refl

pub html-contents : (s : Store) (entry : TagEntry) (space : Namespace) → entry.space ≡ space → space ≡ Html → has_contents (tag_of s entry) ≡ bytes_eq (bytes_of s entry.name) (codes "template")
unfolding tag_of
html-contents s entry Html e is = subst (λ v. has_contents (record (tag_of s entry) { space = space_of v }) ≡ bytes_eq (bytes_of s entry.name) (codes "template")) (sym e) (or-none (bytes_eq (bytes_of s entry.name) (codes "template")))
html-contents s entry Math e is = absurd (let f : ⊥ = cc in f)
html-contents s entry Svg e is = absurd (let f : ⊥ = cc in f)

-- elements of other namespaces have none
pub other-contents : (s : Store) (entry : TagEntry) (space : Namespace) → entry.space ≡ space → (entry.space ≡ Html → ⊥) → false ≡ has_contents (tag_of s entry)
unfolding tag_of
other-contents s entry Html e other = absurd (other e)
other-contents s entry Math e other = subst (λ v. false ≡ has_contents (record (tag_of s entry) { space = space_of v })) (sym e) refl
other-contents s entry Svg e other = subst (λ v. false ≡ has_contents (record (tag_of s entry) { space = space_of v })) (sym e) refl
