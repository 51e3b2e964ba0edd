-- Active formatting elements that are opened again, one after another.
use Rattle.std.proofs.Common.{Bool, IsTrue, List, ap, arith, drop, false, get_or, length, map, nat_le, set, suc, subst, sym, take, true, ℕ, ◌+◌, ◌-◌, ◌<◌, ◌∙◌, ◌∷◌, ◌≡◌, ◌≤◌}
use Rattle.std.proofs.Math.Seq.{drop-cons, take-suc-set}
use Rattle.std.proofs.lemmas.Bool.{and_parts, leb-true}
use Rattle.std.proofs.lemmas.List.{drop-set-lt, drop_all, take_all}
use Rattle.tl_dom_spec.specs.Builder as dom
use Rattle.tl_dom_spec.specs.Formatting.{reconstruct_formatting, reopen, reopen_each}
use Rattle.tl_dom_spec.specs.Path as paths
use Rattle.tl_dom_spec.specs.Path.{is_open_number}
use Rattle.tl_dom_spec.specs.Tags.{Tag}
use Rattle.tl_tree.proofs.ActiveNumbers.{entries-grown, seen-grown}
use Rattle.tl_tree.proofs.Actives.{one-less, seen-latest, seen-none, seen-push}
use Rattle.tl_tree.proofs.Built.{known-more, path-changed}
use Rattle.tl_tree.proofs.Grown.{tag-at-grown}
use Rattle.tl_tree.proofs.Listed.{all-drop, all-take}
use Rattle.tl_tree.specs.Inner.Active.{entry_of, seen}
use Rattle.tl_tree.specs.Inner.ActiveWithin.{entry_is_within}
use Rattle.tl_tree.specs.Inner.Builders.{builder_of}
use Rattle.tl_tree.specs.Inner.Frames.{path_of}
use Rattle.tl_tree.specs.Inner.Known.{AreKnown}
use Rattle.tl_tree.specs.Inner.Reopening.{reopened, rest_reopened}
use Rattle.tl_tree.specs.Inner.Store.{Grows, sizes_of, tag_at}
use Rattle.tl_tree.specs.declared.active.ActiveList.{ActiveList}
use Rattle.tl_tree.specs.declared.active_entry.Entry.{Entry}
use Rattle.tl_tree.specs.declared.active_entry.Entry.TheVariants.{Formatting, Marker}
use Rattle.tl_tree.specs.declared.builder.Builder.{Builder}
use Rattle.tl_tree.specs.declared.path.FramePath.{FramePath}
use Rattle.tl_tree.specs.declared.store.Store.{Store}

-- Which ones are opened again

-- those from a place on are, and what is before them is still to be looked at
pub record ClosedFrom (b : Builder) (n : ℕ) : Type 0 where
  pub within : n ≤ length b.active.entries.items
  pub same :
      reconstruct_formatting (builder_of b)
      ≡ reopened (map (entry_of b.path.store) (drop n b.active.entries.items))
      (reopen_each (builder_of b) (seen b.path.store (take n b.active.entries.items)))

pub closed-init : (b : Builder) (n : ℕ) → n ≡ length b.active.entries.items → ClosedFrom b n
unfolding builder_of
closed-init b n e =
    let s = b.path.store in
    let xs = b.active.entries.items in
    let d = builder_of b in
    record {
      within = omega arith;
      same =
          ap (λ all. reopen_each d (seen s all)) (sym (take_all n xs (omega arith)))
          ∙ ap (λ all. reopened (map (entry_of s) all) (reopen_each d (seen s (take n xs)))) (sym (drop_all n xs (omega arith)));
    }

-- those before stay
stays : (b : Builder) (n : ℕ) → ClosedFrom b n → reopen_each (builder_of b) (seen b.path.store (take n b.active.entries.items)) ≡ record (builder_of b) { active = seen b.path.store (take n b.active.entries.items) } → rest_reopened b n ≡ reconstruct_formatting (builder_of b)
unfolding rest_reopened
stays b n so_far is =
    sym (so_far.same
    ∙ ap (reopened (map (entry_of b.path.store) (drop n b.active.entries.items))) is)

pub closed-none : (b : Builder) (n : ℕ) → n ≡ 0 → ClosedFrom b n → rest_reopened b 0 ≡ reconstruct_formatting (builder_of b)
closed-none b n none so_far =
    let s = b.path.store in
    let d = builder_of b in
    stays b 0 (subst (ClosedFrom b) none so_far)
    (ap (reopen_each d) (seen-none s) ∙ sym (ap (λ (entries : List dom.Entry). record d { active = entries }) (seen-none s)))

drop-at : (xs : List Entry) (n : ℕ) (e own : Entry) → n < length xs → e ≡ get_or xs n e → e ≡ own → drop n xs ≡ own ∷ drop (suc n) xs
drop-at xs n e own h is same =
    drop-cons xs n e h ∙ ap (λ x. x ∷ drop (suc n) xs) (sym is ∙ same)

latest : (b : Builder) (n : ℕ) (e own : Entry) → n < length b.active.entries.items → e ≡ get_or b.active.entries.items n e → e ≡ own → seen b.path.store (take (suc n) b.active.entries.items) ≡ entry_of b.path.store own ∷ seen b.path.store (take n b.active.entries.items)
latest b n e own h is same =
    let s = b.path.store in
    let xs = b.active.entries.items in
    seen-latest s xs n e h is ∙ ap (λ x. entry_of s x ∷ seen s (take n xs)) same

pub closed-marker : (b : Builder) (n : ℕ) (e : Entry) → n < length b.active.entries.items → e ≡ get_or b.active.entries.items n e → e ≡ Marker → ClosedFrom b (suc n) → rest_reopened b (suc n) ≡ reconstruct_formatting (builder_of b)
closed-marker b n e h is marked so_far =
    let d = builder_of b in
    let all = latest b n e Marker h is marked in
    stays b (suc n) so_far
    (ap (reopen_each d) all ∙ sym (ap (λ (entries : List dom.Entry). record d { active = entries }) all))

pub left-over : (b : Builder) (n : ℕ) → 0 < n → rest_reopened b (suc (n - 1)) ≡ reconstruct_formatting (builder_of b) → rest_reopened b n ≡ reconstruct_formatting (builder_of b)
left-over b n some is = ap (rest_reopened b) (one-less n some) ∙ is

-- what becomes of an element, where it is open or not
abbrev opened : dom.Builder → ℕ → Tag → List dom.Entry → Bool → dom.Builder
opened d k tag entries is_open =
    elim is_open as (λ _. dom.Builder) [
      | true ↦ record d { active = dom.formatting k tag ∷ entries }
      | false ↦ reopen tag (reopen_each d entries)
    ]

pub closed-open : (b : Builder) (n k tag : ℕ) (e : Entry) → n < length b.active.entries.items → e ≡ get_or b.active.entries.items n e → e ≡ Formatting k tag → is_open_number k (builder_of b).path ≡ true → ClosedFrom b (suc n) → rest_reopened b (suc n) ≡ reconstruct_formatting (builder_of b)
closed-open b n k tag e h is own open_there so_far =
    let s = b.path.store in
    let d = builder_of b in
    let all = latest b n e (Formatting k tag) h is own in
    stays b (suc n) so_far
    (ap (reopen_each d) all
    ∙ (ap (opened d k (tag_at s tag) (seen s (take n b.active.entries.items))) open_there
    ∙ sym (ap (λ (entries : List dom.Entry). record d { active = entries }) all)))

pub closed-next : (b : Builder) (n k tag : ℕ) (e : Entry) → n < length b.active.entries.items → e ≡ get_or b.active.entries.items n e → e ≡ Formatting k tag → is_open_number k (builder_of b).path ≡ false → ClosedFrom b (suc n) → ClosedFrom b n
closed-next b n k tag e h is own closed so_far =
    let s = b.path.store in
    let d = builder_of b in
    let xs = b.active.entries.items in
    let rest = map (entry_of s) (drop (suc n) xs) in
    let before = seen s (take n xs) in
    record {
      within = omega arith;
      same =
          so_far.same
          ∙ (ap (λ all. reopened rest (reopen_each d all)) (latest b n e (Formatting k tag) h is own)
          ∙ (ap (λ o. reopened rest (opened d k (tag_at s tag) before o)) closed
          ∙ sym (ap (λ all. reopened (map (entry_of s) all) (reopen_each d before)) (drop-at xs n e (Formatting k tag) h is own))));
    }

-- One after the other

pub tag-low : (number greatest k tag : ℕ) (e : Entry) → IsTrue (entry_is_within number greatest e) → e ≡ Formatting k tag → tag ≤ greatest
tag-low number greatest k tag e h is =
    let own : IsTrue (entry_is_within number greatest (Formatting k tag)) = subst (λ (x : Entry). IsTrue (entry_is_within number greatest x)) is h in
    leb-true tag greatest (and_parts (nat_le k number) (nat_le tag greatest) own).1

pub rest-none : (b : Builder) (n : ℕ) → n ≡ length b.active.entries.items → rest_reopened b n ≡ builder_of b
unfolding rest_reopened builder_of
rest-none b n e =
    let s = b.path.store in
    let xs = b.active.entries.items in
    let d = builder_of b in
    ap (λ all. reopened (map (entry_of s) all) (record d { active = seen s (take n xs) })) (drop_all n xs (omega arith))
    ∙ ap (λ all. record d { active = seen s all }) (take_all n xs (omega arith))

pub rest-marker : (b : Builder) (n : ℕ) (e : Entry) → n < length b.active.entries.items → e ≡ get_or b.active.entries.items n e → e ≡ Marker → rest_reopened b (n + 1) ≡ rest_reopened b n
unfolding rest_reopened
rest-marker b n e h is marked =
    let s = b.path.store in
    let d = builder_of b in
    let xs = b.active.entries.items in
    let next : n + 1 ≡ suc n = omega arith in
    let rest = map (entry_of s) (drop (suc n) xs) in
    ap (λ i. reopened (map (entry_of s) (drop i xs)) (record d { active = seen s (take i xs) })) next
    ∙ (ap (λ (entries : List dom.Entry). reopened rest (record d { active = entries })) (latest b n e Marker h is marked)
    ∙ sym (ap (λ all. reopened (map (entry_of s) all) (record d { active = seen s (take n xs) })) (drop-at xs n e Marker h is marked)))

-- the path with an element that is opened again
abbrev pub opened_at : Builder → Tag → paths.Path
opened_at b tag =
    let place = paths.place_in b.is_fostering (path_of b.path) in
    dom.pushed_at place (paths.new_frame b.path.next tag place) (path_of b.path)

-- all but the active formatting elements and the number of those that were added
with_two : dom.Builder → List dom.Entry → ℕ → dom.Builder
with_two d entries added = record d { active = entries; added = added }

pub rest-element : (b : Builder) (q : FramePath) (a : ActiveList) (added : ℕ) (known : AreKnown (sizes_of q.store) q.next a.greatest_number a.greatest_tag b.context b.tag b.text b.doctype q.store a) (n k tag : ℕ) (e : Entry) → Grows b.path.store q.store → q.next ≡ suc b.path.next → added ≡ suc b.added → path_of q ≡ opened_at b (tag_at b.path.store tag) → a.entries.items ≡ set b.active.entries.items n (Formatting b.path.next tag) → n < length b.active.entries.items → e ≡ get_or b.active.entries.items n e → e ≡ Formatting k tag → tag ≤ b.active.greatest_tag → rest_reopened (record b { path = q; active = a; added = added; known = known }) (n + 1) ≡ rest_reopened b n
unfolding rest_reopened builder_of with_two
rest-element b q a added known n k tag e g is-next is-added is-path is-set h is own low =
    ap (λ all. reopened (map (entry_of t) all) after) rest
    ∙ (ap (λ entries. reopened entries after) (entries-grown s t g list.greatest_number list.greatest_tag listed (drop (suc n) xs) (all-drop test (suc n) xs list.within))
    ∙ (ap (reopened (map (entry_of s) (drop (suc n) xs))) opened_again
    ∙ sym (ap (λ all. reopened (map (entry_of s) all) before) (drop-at xs n e (Formatting k tag) h is own))))
  where
    s : Store
    s = b.path.store

    t : Store
    t = q.store

    list : ActiveList
    list = b.active

    xs : List Entry
    xs = b.active.entries.items

    ys : List Entry
    ys = a.entries.items

    new : Entry
    new = Formatting b.path.next tag

    test : Entry → Bool
    test = entry_is_within b.active.greatest_number b.active.greatest_tag

    listed : b.active.greatest_tag < length b.path.store.tags.items
    listed = b.known.listed

    own_tag : Tag
    own_tag = tag_at b.path.store tag

    entries : List dom.Entry
    entries = dom.formatting b.path.next (tag_at b.path.store tag) ∷ seen b.path.store (take n b.active.entries.items)

    after : dom.Builder
    after = record (builder_of (record b { path = q; active = a; added = added; known = known })) { active = seen q.store (take (n + 1) a.entries.items) }

    before : dom.Builder
    before = record (builder_of b) { active = seen b.path.store (take n b.active.entries.items) }

    next : n + 1 ≡ suc n
    next = omega arith

    rest : drop (n + 1) ys ≡ drop (suc n) xs
    rest =
        ap (λ i. drop i ys) next
        ∙ (ap (drop (suc n)) is-set ∙ drop-set-lt (suc n) xs n new (omega arith))

    listed-front : seen t (take (n + 1) ys) ≡ entries
    listed-front =
        ap (λ i. seen t (take i ys)) next
        ∙ (ap (λ all. seen t (take (suc n) all)) is-set
        ∙ (ap (seen t) (take-suc-set xs n new h)
        ∙ (seen-push t (take n xs) new
        ∙ (ap (λ (x : Tag). dom.formatting b.path.next x ∷ seen t (take n xs)) (tag-at-grown s t g tag (omega arith))
        ∙ ap (λ all. dom.formatting b.path.next own_tag ∷ all) (seen-grown s t g list.greatest_number list.greatest_tag listed (take n xs) (all-take test n xs list.within))))))

    opened_again : after ≡ reopen own_tag before
    opened_again =
        ap (λ all. with_two (builder_of (record b { path = q; active = a; added = added; known = known })) all added) listed-front
        ∙ (ap (λ d. with_two d entries added) (path-changed b q (known-more b q g (omega (arith, is-next))) (opened_at b own_tag) (suc b.path.next) g is-next is-path)
        ∙ ap (with_two (record (builder_of b) { path = opened_at b own_tag; next = suc b.path.next }) entries) is-added)
