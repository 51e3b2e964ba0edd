-- The number of a tag's name: the store has it right for each of its tags.
use Rattle.std.proofs.Common.{IsTrue, List, [], ap, arith, cond, drop, false, get_or, length, map, nat_le, refl, suc, sym, take, true, zero, ℕ, Bool, Option, Some, Vec, ◌+◌, ◌++◌, ◌<◌, ◌∙◌, ◌∷◌, ◌≡◌}
use Rattle.std.proofs.lemmas.Bool.{and_from, and_parts}
use Rattle.std.proofs.lemmas.List.{append_assoc, get_or-map, length-append, map-append}
use Rattle.std.proofs.lemmas.Option.{same_Some}
use Rattle.std.specs.List.{list_all}
use Rattle.std.specs.Option.{is_some}
use Rattle.std.specs.declared.alloc.Global.{Global}
use Rattle.tl_dom_spec.specs.Tags.{Tag, bare_tag}
use Rattle.tl_names.specs.ElementNames.{name_of}
use Rattle.tl_names.specs.declared.element_name.ElementName.{ElementName}
use Rattle.tl_tree.proofs.Listed.{map-same, part-front}
use Rattle.tl_tree.proofs.Within.{span-bound}
use Rattle.tl_tree.specs.Inner.Lists.{AreBothPlaced, in_list}
use Rattle.tl_tree.specs.Inner.MetNames.{in_lower_case, lowered_number, number_among, number_in}
use Rattle.tl_tree.specs.Inner.NameNumbers.{number_at}
use Rattle.tl_tree.specs.Inner.Placing.{has_place}
use Rattle.tl_tree.specs.Inner.Store.{bytes_of, tag_at, tag_of}
use Rattle.tl_tree.specs.Inner.Within.{attribute_is_within, key_in, known_in, known_of, number_of, numbered_in, span_is_within, tag_is_within}
use Rattle.tl_tree.specs.declared.attribute_lists.AttributeLists.{AttributeLists}
use Rattle.tl_tree.specs.declared.entries.AttributeEntry.{AttributeEntry}
use Rattle.tl_tree.specs.declared.entries.AttributeList.{AttributeList}
use Rattle.tl_tree.specs.declared.entries.AttributeList.TheVariants.{Body, Html}
use Rattle.tl_tree.specs.declared.entries.TagEntry.{TagEntry}
use Rattle.tl_tree.specs.declared.met_names.MetNames.{MetNames}
use Rattle.tl_tree.specs.declared.store.Store.{Store}

-- where the store has so many tags, and one more or none
pub known-pushed : {A : Type 0} (own in_text : TagEntry → A) (r : Bool) (xs ys : List TagEntry) (t : TagEntry) → ys ≡ cond r (xs ++ t ∷ []) xs → map own xs ≡ map in_text xs → own t ≡ in_text t → map own ys ≡ map in_text ys
known-pushed {A = A} own in_text r xs ys t e all one =
    rw e
    (elim r as (λ b. map own (cond b (xs ++ t ∷ []) xs) ≡ map in_text (cond b (xs ++ t ∷ []) xs)) [
      | true ↦ map-append own xs (t ∷ [])
          ∙ (ap (λ (names : List A). names ++ own t ∷ []) all
          ∙ (ap (λ (name : A). map in_text xs ++ name ∷ []) one
          ∙ sym (map-append in_text xs (t ∷ []))))
      | false ↦ all
    ])

-- what is said of a name in a text
abbrev pub said_in : {A : Type 0} → (List ℕ → A) → List ℕ → TagEntry → A
said_in f text t = f (take t.name.len (drop t.name.start text))

-- a name in the text is there in a longer one
known-front : {A : Type 0} (f : List ℕ → A) (page side more : List ℕ) (many : AttributeList → ℕ) (t : TagEntry) → IsTrue (tag_is_within (length page) (length side) many t) → said_in f (page ++ (side ++ more)) t ≡ said_in f (page ++ side) t
known-front f page side more many t h =
    let p = and_parts (span_is_within (length page) (length side) t.name) (nat_le (t.first_attribute + t.attribute_count) (many t.list)) h in
    let bound = span-bound (length page) (length side) t.name p.0 in
    let long = length-append page side in
    ap (λ (text : List ℕ). said_in f text t) (sym (append_assoc page side more))
    ∙ ap f (part-front t.name.len t.name.start (page ++ side) more (omega arith))

-- where bytes came behind the text, or none
pub known-longer : {A : Type 0} (own : TagEntry → A) (f : List ℕ → A) (page side new more : List ℕ) (many : AttributeList → ℕ) (r : Bool) (xs : List TagEntry) → new ≡ cond r (side ++ more) side → IsTrue (list_all (tag_is_within (length page) (length side) many) xs) → map own xs ≡ map (said_in f (page ++ side)) xs → map own xs ≡ map (said_in f (page ++ new)) xs
known-longer own f page side new more many r xs e within all =
    rw e
    (elim r as (λ b. map own xs ≡ map (said_in f (page ++ cond b (side ++ more) side)) xs) [
      | true ↦ all
          ∙ sym (map-same (tag_is_within (length page) (length side) many) (said_in f (page ++ (side ++ more))) (said_in f (page ++ side)) (known-front f page side more many) xs within)
      | false ↦ all
    ])

known-bytes : (s : Store) (t : TagEntry) → known_in (s.page.now ++ s.side.items) t ≡ name_of (bytes_of s t.name)
unfolding bytes_of
known-bytes s t = refl

-- a tag that was read
pub known-read : (s : Store) (n : ℕ) (t : TagEntry) → t ≡ get_or s.tags.items n t → n < length s.tags.items → t.known ≡ name_of (bytes_of s t.name)
known-read s n t is h =
    let text = s.page.now ++ s.side.items in
    ap known_of is
    ∙ (sym (get_or-map known_of s.tags.items n t t.known h)
    ∙ (ap (λ (names : List ElementName). get_or names n t.known) s.names_known
    ∙ (get_or-map (known_in text) s.tags.items n t t.known h
    ∙ (ap (known_in text) (sym is)
    ∙ known-bytes s t))))

-- with its numbers a tag is the same
pub named-same : (s : Store) (t : TagEntry) (known : ElementName) (number : ℕ) → tag_of s (record t { known = known; number = number }) ≡ tag_of s t
unfolding tag_of
named-same s t known number = refl

pub known-found : (page side own : List ℕ) (t : TagEntry) (name : List ℕ) (known : ElementName) → own ≡ side → name ≡ take t.name.len (drop t.name.start (page ++ own)) → known ≡ name_of name → known ≡ known_in (page ++ side) t
known-found page side own t name known same at is =
    is ∙ ap name_of (at ∙ ap (λ (rest : List ℕ). take t.name.len (drop t.name.start (page ++ rest))) same)

-- Numbers of names in any case

-- where more names were met, tags keep theirs
pub numbered-kept : (old new : MetNames) (text : List ℕ) → ((n : List ℕ) (number : ℕ) → number_in old n ≡ Some number → number_in new n ≡ Some number) → (xs : List TagEntry) → map number_of xs ≡ map (numbered_in old text) xs → map number_of xs ≡ map (numbered_in new text) xs
numbered-kept old new text kept [] e = refl
numbered-kept old new text kept (x ∷ xs) e =
    let head : number_of x ≡ numbered_in old text x = cc in
    let tail : map number_of xs ≡ map (numbered_in old text) xs = cc in
    let first : numbered_in new text x ≡ number_of x = kept (take x.name.len (drop x.name.start text)) x.number (sym head) in
    let others = numbered-kept old new text kept xs tail in
    ap (λ (own : Option ℕ). own ∷ map number_of xs) (sym first) ∙ ap (λ (rest : List (Option ℕ)). numbered_in new text x ∷ rest) others

pub numbered-found : (names : MetNames) (page side own : List ℕ) (t : TagEntry) (name : List ℕ) (number : ℕ) → own ≡ side → name ≡ take t.name.len (drop t.name.start (page ++ own)) → number_in names name ≡ Some number → Some number ≡ numbered_in names (page ++ side) t
numbered-found names page side own t name number same at is =
    sym is ∙ ap (number_in names) (at ∙ ap (λ (rest : List ℕ). take t.name.len (drop t.name.start (page ++ rest))) same)

numbered-at : (names : MetNames) (text : List ℕ) (f : TagEntry → Tag) → ((t : TagEntry) → (f t).name ≡ take t.name.len (drop t.name.start text)) → (xs : List TagEntry) (n : ℕ) (d : Tag) → n < length xs → map number_of xs ≡ map (numbered_in names text) xs → number_in names (get_or (map f xs) n d).name ≡ Some (get_or (map (λ (t : TagEntry). t.number) xs) n 0)
numbered-at names text f named [] n d h e = absurd (omega arith)
numbered-at names text f named (x ∷ xs) zero d h e =
    let head : number_of x ≡ numbered_in names text x = cc in
    ap (number_in names) (named x) ∙ sym head
numbered-at names text f named (x ∷ xs) (suc n) d h e =
    let tail : map number_of xs ≡ map (numbered_in names text) xs = cc in
    numbered-at names text f named xs n d (omega arith) tail

-- the number of the name of a tag
pub number-read : (s : Store) (n : ℕ) → n < length s.tags.items → number_in s.names (tag_at s n).name ≡ Some (number_at s n)
unfolding tag_at tag_of bytes_of number_at
number-read s n h =
    numbered-at s.names (s.page.now ++ s.side.items) (tag_of s) (λ t. refl) s.tags.items n (bare_tag []) h s.names_numbered

pub number-at : (s : Store) (n : ℕ) (t : TagEntry) → t ≡ get_or s.tags.items n t → n < length s.tags.items → t.number ≡ number_at s n
unfolding number_at
number-at s n t is h =
    ap (λ (own : TagEntry). own.number) is ∙ sym (get_or-map (λ (own : TagEntry). own.number) s.tags.items n t 0 h)

-- tags of one name
pub same-number : (s : Store) (m n : ℕ) → m < length s.tags.items → n < length s.tags.items → (tag_at s m).name ≡ (tag_at s n).name → number_at s m ≡ number_at s n
same-number s m n h k e =
    same_Some (number_at s m) (number_at s n) (sym (number-read s m h) ∙ (ap (number_in s.names) e ∙ number-read s n k))

-- a tag whose name differs in case alone
pub cased-number : (s : Store) (n : ℕ) (name : List ℕ) → n < length s.tags.items → in_lower_case (tag_at s n).name ≡ in_lower_case name → number_in s.names name ≡ Some (number_at s n)
cased-number s n name h e = ap (lowered_number s.names) (sym e) ∙ number-read s n h

-- Keys and their places, where bytes came behind the text, or none

longer-placed : (places : List (Vec ℕ Global × ℕ)) (page side more : List ℕ) (xs : List AttributeEntry) → IsTrue (list_all (attribute_is_within (length page) (length side)) xs) → IsTrue (list_all (has_place places (key_in (page ++ side))) xs) → IsTrue (list_all (has_place places (key_in (page ++ (side ++ more)))) xs)
longer-placed places page side more [] within all = refl
longer-placed places page side more (x ∷ xs) within all =
    let w = and_parts (attribute_is_within (length page) (length side) x) (list_all (attribute_is_within (length page) (length side)) xs) within in
    let p = and_parts (has_place places (key_in (page ++ side)) x) (list_all (has_place places (key_in (page ++ side))) xs) all in
    let bound = span-bound (length page) (length side) x.key (and_parts (span_is_within (length page) (length side) x.key) (span_is_within (length page) (length side) x.value) w.0).0 in
    let long = length-append page side in
    let same : key_in (page ++ (side ++ more)) x ≡ key_in (page ++ side) x =
    ap (λ (text : List ℕ). key_in text x) (sym (append_assoc page side more)) ∙ part-front x.key.len x.key.start (page ++ side) more (omega arith) in
    and_from (has_place places (key_in (page ++ (side ++ more))) x) (list_all (has_place places (key_in (page ++ (side ++ more)))) xs)
    (ap (λ (key : List ℕ). is_some (number_among places key)) same ∙ p.0)
    (longer-placed places page side more xs w.1 p.1)

pub placed-longer : (page side new more : List ℕ) (r : Bool) (lists : AttributeLists) → new ≡ cond r (side ++ more) side → ((list : AttributeList) → IsTrue (list_all (attribute_is_within (length page) (length side)) (in_list lists list))) → AreBothPlaced (key_in (page ++ side)) lists → AreBothPlaced (key_in (page ++ new)) lists
placed-longer page side new more r lists e within both =
    rw e
    (elim r as (λ b. AreBothPlaced (key_in (page ++ cond b (side ++ more) side)) lists) [
      | true ↦ record {
        html = longer-placed lists.html_places.entries page side more lists.html.items (within Html) both.html;
        body = longer-placed lists.body_places.entries page side more lists.body.items (within Body) both.body;
      }
      | false ↦ both
    ])
