-- Names in one list of bytes, each from where its tag says.
use Rattle.std.proofs.Common.{◌≡◌, ℕ, zero, suc, ◌+◌, ◌-◌, ◌<◌, ◌≤◌, nat_le, true, bit_or, ◌&&◌, ◌==◌, List, [], ◌∷◌, ◌++◌, length, take, drop, get_or, refl, ap, sym, ◌∙◌, arith, length-append, length-take, length-take-le}
use Rattle.std.proofs.lemmas.Bool.{and_from, and_parts, eq-eqb, eqb-true, le-leb, leb-true}
use Rattle.std.proofs.lemmas.List.{drop-take, drop_at, take-take, take_at, take_rest}
use Rattle.tl_html_balance.specs.Classes.{classes_of}
use Rattle.tl_html_balance.specs.Names.{all_classes, are_nested, end_at, names_in, says_classes}
use Rattle.tl_html_balance.specs.declared.open_tags.OpenTag.{OpenTag}

-- what is known of the innermost tag and of those around it
pub record Nested (tag : OpenTag) (tags : List OpenTag) (bytes : List ℕ) : Type 0 where
  pub within : tag.start ≤ length bytes
  pub known : tag.classes ≡ classes_of (drop tag.start bytes)
  pub all : tag.all_classes ≡ bit_or tag.classes (all_classes tags)
  pub around : are_nested tags (take tag.start bytes) ≡ true

pub nested_parts : (tag : OpenTag) (tags : List OpenTag) (bytes : List ℕ) → are_nested (tag ∷ tags) bytes ≡ true → Nested tag tags bytes
nested_parts tag tags bytes h =
    let name : List ℕ = drop tag.start bytes in
    let outer = and_parts (nat_le tag.start (length bytes) && says_classes tag tags name) (are_nested tags (take tag.start bytes)) h in
    let inner = and_parts (nat_le tag.start (length bytes)) (says_classes tag tags name) outer.0 in
    let own = and_parts (tag.classes == classes_of name) (tag.all_classes == bit_or tag.classes (all_classes tags)) inner.1 in
    record {
      within = leb-true tag.start (length bytes) inner.0;
      known = eqb-true tag.classes (classes_of name) own.0;
      all = eqb-true tag.all_classes (bit_or tag.classes (all_classes tags)) own.1;
      around = outer.1;
    }

pub names-length : (tags : List OpenTag) (bytes : List ℕ) → length (names_in tags bytes) ≡ length tags
names-length [] bytes = refl
names-length (tag ∷ tags) bytes = ap suc (names-length tags (take tag.start bytes))

-- a tag's classes are those of its name
pub classes-at : (tags : List OpenTag) (bytes : List ℕ) (k : ℕ) (d : OpenTag) → are_nested tags bytes ≡ true → k < length tags → (get_or tags k d).classes ≡ classes_of (get_or (names_in tags bytes) k [])
classes-at [] bytes k d h lt = absurd (omega arith)
classes-at (tag ∷ tags) bytes zero d h lt = (nested_parts tag tags bytes h).known
classes-at (tag ∷ tags) bytes (suc k) d h lt =
    classes-at tags (take tag.start bytes) k d (nested_parts tag tags bytes h).around (omega arith)

pub start-within : (tags : List OpenTag) (bytes : List ℕ) (k : ℕ) (d : OpenTag) → are_nested tags bytes ≡ true → k < length tags → (get_or tags k d).start ≤ length bytes
start-within [] bytes k d h lt = absurd (omega arith)
start-within (tag ∷ tags) bytes zero d h lt = (nested_parts tag tags bytes h).within
start-within (tag ∷ tags) bytes (suc k) d h lt =
    let more = start-within tags (take tag.start bytes) k d (nested_parts tag tags bytes h).around (omega arith) in
    omega (arith, length-take tag.start bytes)

-- what is left after the innermost were closed
pub record Remains (tags rest : List OpenTag) (bytes left : List ℕ) (count : ℕ) : Type 0 where
  pub names : names_in rest left ≡ drop count (names_in tags bytes)
  pub nested : are_nested rest left ≡ true

pub remain : (tags : List OpenTag) (bytes : List ℕ) (k : ℕ) (d : OpenTag) → are_nested tags bytes ≡ true → k < length tags → Remains tags (drop (suc k) tags) bytes (take (get_or tags k d).start bytes) (suc k)
remain [] bytes k d h lt = absurd (omega arith)
remain (tag ∷ tags) bytes zero d h lt = record { names = refl; nested = (nested_parts tag tags bytes h).around }
remain (tag ∷ tags) bytes (suc k) d h lt =
    let inner : are_nested tags (take tag.start bytes) ≡ true = (nested_parts tag tags bytes h).around in
    let more : Remains tags (drop (suc k) tags) (take tag.start bytes) (take (get_or tags k d).start (take tag.start bytes)) (suc k) = remain tags (take tag.start bytes) k d inner (omega arith) in
    let below = start-within tags (take tag.start bytes) k d inner (omega arith) in
    let order : (get_or tags k d).start ≤ tag.start = omega (arith, length-take tag.start bytes) in
    let same : take (get_or tags k d).start (take tag.start bytes) ≡ take (get_or tags k d).start bytes = take-take (get_or tags k d).start tag.start bytes order in
    record {
      names = ap (names_in (drop (suc k) tags)) (sym same) ∙ more.names;
      nested = ap (are_nested (drop (suc k) tags)) (sym same) ∙ more.nested;
    }

-- a tag is opened
pub pushed-names : (tag : OpenTag) (tags : List OpenTag) (bytes name : List ℕ) → tag.start ≡ length bytes → names_in (tag ∷ tags) (bytes ++ name) ≡ name ∷ names_in tags bytes
pushed-names tag tags bytes name e =
    ap (λ (own : List ℕ). own ∷ names_in tags (take tag.start (bytes ++ name))) (drop_at bytes name tag.start (sym e))
    ∙ ap (λ (more : List ℕ). name ∷ names_in tags more) (take_at bytes name tag.start (sym e))

-- where a name ends

pub end-after : (tags : List OpenTag) (bytes : List ℕ) (k : ℕ) (d : OpenTag) → are_nested tags bytes ≡ true → k < length tags → end_at tags bytes (suc k) ≡ (get_or tags k d).start
end-after [] bytes k d h lt = absurd (omega arith)
end-after (tag ∷ tags) bytes zero d h lt =
    let within = (nested_parts tag tags bytes h).within in
    length-take-le tag.start bytes within
end-after (tag ∷ tags) bytes (suc k) d h lt =
    end-after tags (take tag.start bytes) k d (nested_parts tag tags bytes h).around (omega arith)

pub end-within : (tags : List OpenTag) (bytes : List ℕ) (k : ℕ) → k < length tags → end_at tags bytes k ≤ length bytes
end-within tags bytes zero lt = omega arith
end-within [] bytes (suc k) lt = absurd (omega arith)
end-within (tag ∷ tags) bytes (suc k) lt =
    let more = end-within tags (take tag.start bytes) k (omega arith) in
    omega (arith, length-take tag.start bytes)

pub start-before : (tags : List OpenTag) (bytes : List ℕ) (k : ℕ) (d : OpenTag) → are_nested tags bytes ≡ true → k < length tags → (get_or tags k d).start ≤ end_at tags bytes k
start-before [] bytes k d h lt = absurd (omega arith)
start-before (tag ∷ tags) bytes zero d h lt = (nested_parts tag tags bytes h).within
start-before (tag ∷ tags) bytes (suc k) d h lt =
    start-before tags (take tag.start bytes) k d (nested_parts tag tags bytes h).around (omega arith)

part_of_front : (s e t : ℕ) (bytes : List ℕ) → s ≤ e → e ≤ t → take (e - s) (drop s (take t bytes)) ≡ take (e - s) (drop s bytes)
part_of_front s e t bytes h k =
    let m : ℕ = t - s in
    let sum : t ≡ s + m = omega arith in
    let short : e - s ≤ m = omega arith in
    ap (λ n. take (e - s) (drop s (take n bytes))) sum
    ∙ ap (take (e - s)) (drop-take s m bytes)
    ∙ take-take (e - s) m (drop s bytes) short

pub name-at : (tags : List OpenTag) (bytes : List ℕ) (k : ℕ) (d : OpenTag) → are_nested tags bytes ≡ true → k < length tags →
    take (end_at tags bytes k - (get_or tags k d).start) (drop (get_or tags k d).start bytes) ≡ get_or (names_in tags bytes) k []
name-at [] bytes k d h lt = absurd (omega arith)
name-at (tag ∷ tags) bytes zero d h lt = take_rest bytes tag.start
name-at (tag ∷ tags) bytes (suc k) d h lt =
    let own : List ℕ = take tag.start bytes in
    let inner : are_nested tags own ≡ true = (nested_parts tag tags bytes h).around in
    let within : end_at tags own k ≤ length own = end-within tags own k (omega arith) in
    let far : end_at tags own k ≤ tag.start = omega (arith, length-take tag.start bytes) in
    sym (part_of_front (get_or tags k d).start (end_at tags own k) tag.start bytes (start-before tags own k d inner (omega arith)) far)
    ∙ name-at tags own k d inner (omega arith)
