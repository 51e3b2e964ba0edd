-- How many of the active formatting elements are counted, and what is known where few are.
use Rattle.std.proofs.Common.{ap, arith, inl, inr, sym, subst, ◌∙◌, ◌≡◌, ◌+◌, ◌-◌, ◌%◌, ◌≤◌, ◌<◌, ◌++◌, ◌==◌, ◌∷◌, ◌&&◌, ◌||◌, [], Bool, IsTrue, List, None, Some, Option, cond, drop, false, get_or, length, map, nat_eq, nat_le, nat_lt, refl, reverse, set, suc, take, true, zero, ℕ}
use Rattle.std.proofs.Math.Seq.{take-suc}
use Rattle.std.proofs.lemmas.Bool.{and_from, and_parts, cond-false, eq-eqb, eqb-true, false≢true, le-ltb, leb-true, lt-ltb}
use Rattle.std.proofs.lemmas.Bool.Decides.{eqb_tells}
use Rattle.std.proofs.lemmas.List.{append-nil, get_or-set_other, get_or-set_same, length-set, take-append-drop}
use Rattle.std.proofs.lemmas.List.Folds.{list_all-append}
use Rattle.std.specs.List.{insert, list_all, list_any, remove}
use Rattle.std.specs.Str.{bytes_eq}
use Rattle.tl_dom_spec.proofs.PartTests.{same_name}
use Rattle.tl_dom_spec.specs.Builder as dom
use Rattle.tl_dom_spec.specs.Formatting.{Listed, alike_count, is_alike, is_same_attribute, listed, with_room, without_earliest}
use Rattle.tl_dom_spec.specs.Tags.{Attribute, Tag}
use Rattle.tl_tree.proofs.Actives.{entry-at, parted, seen-front, seen-none, set-parted}
use Rattle.tl_tree.proofs.Grown.{tag-at-grown}
use Rattle.tl_tree.proofs.Listed.{all-drop, all-take}
use Rattle.tl_tree.proofs.Skips.{read-number}
use Rattle.tl_tree.specs.Inner.Active.{active_of, entry_of, seen}
use Rattle.tl_tree.specs.Inner.ActiveWithin.{entry_is_within}
use Rattle.tl_tree.specs.Inner.Looks.{key_of, look_by, look_of, read_on}
use Rattle.tl_tree.specs.Inner.Store.{Grows, attribute_of, bytes_of, is_tag_number, tag_at}
use Rattle.tl_tree.specs.Inner.Tallied.{AreBothTallied, AreTallied, IsTallied, counted, has_key, is_in, is_known, is_tagged}
use Rattle.tl_tree.specs.declared.active.ActiveList.{ActiveList}
use Rattle.tl_tree.specs.declared.active_entry.Entry.{Entry}
use Rattle.tl_tree.specs.declared.active_entry.Entry.TheVariants.{Formatting, Marker}
use Rattle.tl_tree.specs.declared.entries.AttributeEntry.{AttributeEntry}
use Rattle.tl_tree.specs.declared.look.Key.{Key}
use Rattle.tl_tree.specs.declared.look.Key.TheVariants.{Look, Name}
use Rattle.tl_tree.specs.declared.store.Store.{Store}

-- Counts of parts

swapped : (a b : Bool) (n : ℕ) → cond a (suc (cond b (suc n) n)) (cond b (suc n) n) ≡ cond b (suc (cond a (suc n) n)) (cond a (suc n) n)
swapped true true n = refl
swapped true false n = refl
swapped false true n = refl
swapped false false n = refl

pub counted-with : {A : Type 0} (test : A → Bool) (xs ys : List A) (e : A) → counted test (xs ++ e ∷ ys) ≡ counted test (e ∷ (xs ++ ys))
counted-with test [] ys e = refl
counted-with test (x ∷ xs) ys e =
    ap (λ (n : ℕ). cond (test x) (suc n) n) (counted-with test xs ys e)
    ∙ swapped (test x) (test e) (counted test (xs ++ ys))

raised : (b c : Bool) (m n : ℕ) → (b ≡ true → c ≡ true) → m ≤ n → cond b (suc m) m ≤ cond c (suc n) n
raised true true m n h le = omega arith
raised true false m n h le = absurd (false≢true (h refl))
raised false true m n h le = omega arith
raised false false m n h le = omega arith

pub counted-weaker : {A : Type 0} (test other : A → Bool) → ((x : A) → test x ≡ true → other x ≡ true) → (xs : List A) → counted test xs ≤ counted other xs
counted-weaker test other f [] = omega arith
counted-weaker test other f (x ∷ xs) =
    raised (test x) (other x) (counted test xs) (counted other xs) (f x) (counted-weaker test other f xs)

-- of what is seen
seen-counted : (s : Store) (p : dom.Entry → Bool) (xs : List Entry) → counted p (seen s xs) ≡ counted (λ (e : Entry). p (entry_of s e)) xs
seen-counted s p [] = ap (counted p) (seen-none s)
seen-counted s p (e ∷ xs) =
    ap (counted p) (seen-front s e xs)
    ∙ (counted-with p (seen s xs) [] (entry_of s e)
    ∙ (ap (λ (all : List dom.Entry). counted p (entry_of s e ∷ all)) (append-nil (seen s xs))
    ∙ ap (λ (n : ℕ). cond (p (entry_of s e)) (suc n) n) (seen-counted s p xs)))

-- Counts that are no smaller

pub tallied-same : (s : Store) (key : Key) (counts : List ℕ) (xs ys : List Entry) → ((test : Entry → Bool) → counted test ys ≡ counted test xs) → AreTallied s key counts xs → AreTallied s key counts ys
tallied-same s key counts xs ys same t slot h =
    let e = same (is_in s key (length counts) slot) in
    let le = t slot h in
    omega arith

pub tallied-none : (s : Store) (key : Key) (counts : List ℕ) (xs : List Entry) → counts ≡ [] → AreTallied s key counts xs
tallied-none s key counts xs none slot h =
    let many = ap length none in
    absurd (omega arith)

pub tallied-nil : (s : Store) (key : Key) (counts : List ℕ) → AreTallied s key counts []
tallied-nil s key counts slot h = omega arith

pub tallied-more : (s : Store) (key : Key) (counts : List ℕ) (entries : List Entry) (n tag number slot count : ℕ) → slot ≡ number % length counts → slot < length counts → count ≡ get_or counts slot count → key_of key (tag_at s tag) ≡ number → AreTallied s key counts entries → AreTallied s key (set counts slot (count + 1)) (Formatting n tag ∷ entries)
tallied-more s key counts entries n tag number slot count at within read is t place h =
    let size = length counts in
    let new = set counts slot (count + 1) in
    let long : length new ≡ size = length-set counts slot (count + 1) in
    let rest = counted (is_in s key size place) entries in
    let was : rest ≤ get_or counts place 0 = t place (omega arith) in
    subst (λ (m : ℕ). counted (is_in s key m place) (Formatting n tag ∷ entries) ≤ get_or new place 0) (sym long)
    (elim (eqb_tells (key_of key (tag_at s tag) % size) place) [
      | inl same ↦ (let here : slot ≡ place = at ∙ (ap (λ (m : ℕ). m % size) (sym is) ∙ same.1) in
          let now : get_or new place 0 ≡ count + 1 = ap (λ (m : ℕ). get_or new m 0) (sym here) ∙ get_or-set_same counts slot (count + 1) 0 within in
          let old : count ≡ get_or counts place 0 = read-number counts slot count within read ∙ ap (λ (m : ℕ). get_or counts m 0) here in
          let all : counted (is_in s key size place) (Formatting n tag ∷ entries) ≡ suc rest = ap (λ (b : Bool). cond b (suc rest) rest) same.0 in
          omega arith)
      | inr other ↦ (let now : get_or new place 0 ≡ get_or counts place 0 = get_or-set_other counts slot place (count + 1) 0 (λ (e : place ≡ slot). other.1 (ap (λ (m : ℕ). m % size) is ∙ (sym at ∙ sym e))) in
          let all : counted (is_in s key size place) (Formatting n tag ∷ entries) ≡ rest = ap (λ (b : Bool). cond b (suc rest) rest) other.0 in
          omega arith)
    ])

pub tallied-less : (s : Store) (key : Key) (counts : List ℕ) (entries : List Entry) (n tag number slot count less : ℕ) → slot ≡ number % length counts → slot < length counts → count ≡ get_or counts slot count → less ≡ count - 1 → key_of key (tag_at s tag) ≡ number → AreTallied s key counts (Formatting n tag ∷ entries) → AreTallied s key (set counts slot less) entries
tallied-less s key counts entries n tag number slot count less at within read few is t place h =
    let size = length counts in
    let new = set counts slot less in
    let long : length new ≡ size = length-set counts slot less in
    let rest = counted (is_in s key size place) entries in
    let was : counted (is_in s key size place) (Formatting n tag ∷ entries) ≤ get_or counts place 0 = t place (omega arith) in
    subst (λ (m : ℕ). counted (is_in s key m place) entries ≤ get_or new place 0) (sym long)
    (elim (eqb_tells (key_of key (tag_at s tag) % size) place) [
      | inl same ↦ (let here : slot ≡ place = at ∙ (ap (λ (m : ℕ). m % size) (sym is) ∙ same.1) in
          let now : get_or new place 0 ≡ less = ap (λ (m : ℕ). get_or new m 0) (sym here) ∙ get_or-set_same counts slot less 0 within in
          let old : count ≡ get_or counts place 0 = read-number counts slot count within read ∙ ap (λ (m : ℕ). get_or counts m 0) here in
          let all : counted (is_in s key size place) (Formatting n tag ∷ entries) ≡ suc rest = ap (λ (b : Bool). cond b (suc rest) rest) same.0 in
          omega arith)
      | inr other ↦ (let now : get_or new place 0 ≡ get_or counts place 0 = get_or-set_other counts slot place less 0 (λ (e : place ≡ slot). other.1 (ap (λ (m : ℕ). m % size) is ∙ (sym at ∙ sym e))) in
          let all : counted (is_in s key size place) (Formatting n tag ∷ entries) ≡ rest = ap (λ (b : Bool). cond b (suc rest) rest) other.0 in
          omega arith)
    ])

-- how many have a number
in-slot : (s : Store) (key : Key) (size number : ℕ) (e : Entry) → has_key s key number e ≡ true → is_in s key size (number % size) e ≡ true
in-slot s key size number Marker h = h
in-slot s key size number (Formatting n tag) h =
    eq-eqb (key_of key (tag_at s tag) % size) (number % size) (ap (λ (m : ℕ). m % size) (eqb-true (key_of key (tag_at s tag)) number h))

pub tallied-most : (s : Store) (key : Key) (counts : List ℕ) (entries : List Entry) (number slot most : ℕ) → slot ≡ number % length counts → slot < length counts → most ≡ get_or counts slot most → AreTallied s key counts entries → counted (has_key s key number) entries ≤ most
tallied-most s key counts entries number slot most at within read t =
    let size = length counts in
    let few = counted-weaker (has_key s key number) (is_in s key size (number % size)) (in-slot s key size number) entries in
    let same = ap (λ (m : ℕ). counted (is_in s key size m) entries) at in
    let all = t slot within in
    let own = read-number counts slot most within read in
    omega arith

-- Lists that are changed

pub tallied-inserted : (s : Store) (key : Key) (counts : List ℕ) (xs : List Entry) (n : ℕ) (e : Entry) → AreTallied s key counts (e ∷ xs) → AreTallied s key counts (insert xs n e)
tallied-inserted s key counts xs n e t =
    tallied-same s key counts (e ∷ xs) (insert xs n e)
    (λ (test : Entry → Bool). counted-with test (take n xs) (drop n xs) e
    ∙ ap (λ (all : List Entry). counted test (e ∷ all)) (take-append-drop n xs)) t

pub tallied-taken : (s : Store) (key : Key) (counts : List ℕ) (xs : List Entry) (n : ℕ) (d : Entry) → n < length xs → AreTallied s key counts xs → AreTallied s key counts (get_or xs n d ∷ remove xs n)
tallied-taken s key counts xs n d h t =
    tallied-same s key counts xs (get_or xs n d ∷ remove xs n)
    (λ (test : Entry → Bool). sym (ap (counted test) (parted xs n d h) ∙ counted-with test (take n xs) (drop (suc n) xs) (get_or xs n d))) t

pub tallied-unmarked : (s : Store) (key : Key) (counts : List ℕ) (xs : List Entry) → AreTallied s key counts (Marker ∷ xs) → AreTallied s key counts xs
tallied-unmarked s key counts xs t = t

pub tallied-marked : (s : Store) (key : Key) (counts : List ℕ) (r : Bool) (xs ys : List Entry) → ys ≡ cond r (xs ++ Marker ∷ []) xs → AreTallied s key counts xs → AreTallied s key counts ys
tallied-marked s key counts r xs ys e t =
    rw e
    (elim r as (λ b. AreTallied s key counts (cond b (xs ++ Marker ∷ []) xs)) [
      | true ↦ tallied-unmarked s key counts (xs ++ Marker ∷ []) (marked s key counts xs t)
      | false ↦ t
    ])
  where
    marked : (s : Store) (key : Key) (counts : List ℕ) (xs : List Entry) → AreTallied s key counts xs → AreTallied s key counts (Marker ∷ (xs ++ Marker ∷ []))
    marked s key counts xs t slot h =
        let test = is_in s key (length counts) slot in
        let e = counted-with test xs [] Marker ∙ ap (counted test) (append-nil xs) in
        let le = t slot h in
        omega arith

same-slot : (s : Store) (key : Key) (size slot new tag : ℕ) (e : Entry) → IsTrue (is_tagged tag e) → is_in s key size slot (Formatting new tag) ≡ is_in s key size slot e
same-slot s key size slot new tag Marker h = absurd (false≢true h)
same-slot s key size slot new tag (Formatting n own) h =
    ap (λ (t : ℕ). (key_of key (tag_at s t) % size) == slot) (sym (eqb-true own tag h))

pub tallied-set : (s : Store) (key : Key) (counts : List ℕ) (xs : List Entry) (n new tag : ℕ) → n < length xs → IsTrue (is_tagged tag (get_or xs n Marker)) → AreTallied s key counts xs → AreTallied s key counts (set xs n (Formatting new tag))
tallied-set s key counts xs n new tag h own t slot within =
    let test = is_in s key (length counts) slot in
    let rest = counted test (take n xs ++ drop (suc n) xs) in
    let was : counted test xs ≡ cond (test (get_or xs n Marker)) (suc rest) rest = ap (counted test) (parted xs n Marker h) ∙ counted-with test (take n xs) (drop (suc n) xs) (get_or xs n Marker) in
    let now : counted test (set xs n (Formatting new tag)) ≡ cond (test (Formatting new tag)) (suc rest) rest = ap (counted test) (set-parted xs n (Formatting new tag) h) ∙ counted-with test (take n xs) (drop (suc n) xs) (Formatting new tag) in
    let same = ap (λ (b : Bool). cond b (suc rest) rest) (same-slot s key (length counts) slot new tag (get_or xs n Marker) own) in
    let le = t slot within in
    omega arith

-- As the store grows

slot-grown : (s t : Store) → Grows s t → (key : Key) (size slot number tag : ℕ) → tag < length s.tags.items → (e : Entry) → IsTrue (entry_is_within number tag e) → is_in t key size slot e ≡ is_in s key size slot e
slot-grown s t g key size slot number tag h Marker w = refl
slot-grown s t g key size slot number tag h (Formatting n own) w =
    let p = and_parts (nat_le n number) (nat_le own tag) w in
    let le = leb-true own tag p.1 in
    ap (λ (x : Tag). (key_of key x % size) == slot) (tag-at-grown s t g own (omega arith))

counted-grown : (s t : Store) → Grows s t → (key : Key) (size slot number tag : ℕ) → tag < length s.tags.items → (xs : List Entry) → IsTrue (list_all (entry_is_within number tag) xs) → counted (is_in t key size slot) xs ≡ counted (is_in s key size slot) xs
counted-grown s t g key size slot number tag h [] all = refl
counted-grown s t g key size slot number tag h (x ∷ xs) all =
    let p = and_parts (entry_is_within number tag x) (list_all (entry_is_within number tag) xs) all in
    let n = counted (is_in t key size slot) xs in
    ap (λ (b : Bool). cond b (suc n) n) (slot-grown s t g key size slot number tag h x p.0)
    ∙ ap (λ (m : ℕ). cond (is_in s key size slot x) (suc m) m) (counted-grown s t g key size slot number tag h xs p.1)

tallied-more_store : (s t : Store) → Grows s t → (key : Key) (counts : List ℕ) (number tag : ℕ) → tag < length s.tags.items → (xs : List Entry) → IsTrue (list_all (entry_is_within number tag) xs) → AreTallied s key counts xs → AreTallied t key counts xs
tallied-more_store s t g key counts number tag h xs all old slot within =
    let e = counted-grown s t g key (length counts) slot number tag h xs all in
    let le = old slot within in
    omega arith

pub tallied-grown : (s t : Store) → Grows s t → (a : ActiveList) → a.greatest_tag < length s.tags.items → IsTallied s a → IsTallied t a
tallied-grown s t g a h old = record {
  looks = tallied-more_store s t g Look a.looks.counts.items a.greatest_number a.greatest_tag h a.entries.items a.within old.looks;
  names = tallied-more_store s t g Name a.names.counts.items a.greatest_number a.greatest_tag h a.entries.items a.within old.names;
}

-- Tags of entries are those of the store
pub entries-known : (s : Store) (number tag : ℕ) → tag < length s.tags.items → (xs : List Entry) → IsTrue (list_all (entry_is_within number tag) xs) → IsTrue (list_all (is_known s) xs)
entries-known s number tag h [] all = refl
entries-known s number tag h (Marker ∷ xs) all = entries-known s number tag h xs all
entries-known s number tag h (Formatting n own ∷ xs) all =
    let p = and_parts (entry_is_within number tag (Formatting n own)) (list_all (entry_is_within number tag) xs) all in
    let q = and_parts (nat_le n number) (nat_le own tag) p.0 in
    let le = leb-true own tag q.1 in
    and_from (is_tag_number s own) (list_all (is_known s) xs) (lt-ltb own (length s.tags.items) (omega arith)) (entries-known s number tag h xs p.1)

-- Elements that are alike

look-same : (name : ℕ) (xs ys : List Attribute) → length xs ≡ length ys → list_all (λ (x : Attribute). list_any (is_same_attribute x) ys) xs ≡ true → look_by name ys ≡ look_by name xs
look-same name [] [] h all = refl
look-same name [] (y ∷ ys) h all = absurd (omega (arith, h))
look-same name (x ∷ xs) [] h all = absurd (omega (arith, h))
look-same name (x ∷ []) (y ∷ z ∷ ys) h all = absurd (omega (arith, h))
look-same name (x ∷ z ∷ xs) (y ∷ []) h all = absurd (omega (arith, h))
look-same name (x ∷ z ∷ xs) (y ∷ w ∷ ys) h all = refl
look-same name (x ∷ []) (y ∷ []) h all =
    let one = (and_parts (is_same_attribute x y || false) true all).0 in
    let own = one-of (is_same_attribute x y) one in
    let p = and_parts (bytes_eq x.key y.key) (bytes_eq x.value y.value) own in
    ap (λ (k : List ℕ). read_on (read_on name k) y.value) (sym (same_name x.key y.key p.0))
    ∙ ap (λ (v : List ℕ). read_on (read_on name x.key) v) (sym (same_name x.value y.value p.1))
  where
    one-of : (b : Bool) → (b || false) ≡ true → b ≡ true
    one-of true h = refl
    one-of false h = h

pub alike-look : (a b : Tag) → is_alike a b ≡ true → look_of b ≡ look_of a
unfolding look_of
alike-look a b h =
    let all = list_all (λ (x : Attribute). list_any (is_same_attribute x) b.attributes) a.attributes in
    let long = nat_eq (length a.attributes) (length b.attributes) in
    let p = and_parts (bytes_eq a.name b.name && long) all h in
    let q = and_parts (bytes_eq a.name b.name) long p.0 in
    ap (λ (n : List ℕ). look_by (read_on 0 n) b.attributes) (sym (same_name a.name b.name q.0))
    ∙ look-same (read_on 0 a.name) a.attributes b.attributes (eqb-true (length a.attributes) (length b.attributes) q.1) p.1

abbrev likes : Tag → dom.Entry → Bool
likes own dom.marker = false
likes own (dom.formatting k tag) = is_alike own tag

alike-counted : (own : Tag) (ds : List dom.Entry) → alike_count own ds ≤ counted (likes own) ds
alike-counted own [] = omega arith
alike-counted own (dom.marker ∷ ds) = omega arith
alike-counted own (dom.formatting k tag ∷ ds) =
    raised (is_alike own tag) (is_alike own tag) (alike_count own ds) (counted (likes own) ds) (λ h. h) (alike-counted own ds)

like-look : (s : Store) (own : Tag) (e : Entry) → likes own (entry_of s e) ≡ true → has_key s Look (look_of own) e ≡ true
like-look s own Marker h = h
like-look s own (Formatting n tag) h = eq-eqb (look_of (tag_at s tag)) (look_of own) (alike-look own (tag_at s tag) h)

-- no more than have the number
pub alike-few : (s : Store) (own : Tag) (xs : List Entry) → alike_count own (seen s xs) ≤ counted (has_key s Look (look_of own)) xs
alike-few s own xs =
    let few = alike-counted own (seen s xs) in
    let same = seen-counted s (likes own) xs in
    let more = counted-weaker (λ (e : Entry). likes own (entry_of s e)) (has_key s Look (look_of own)) (like-look s own) xs in
    omega arith

-- Elements of a name

abbrev named : List ℕ → dom.Entry → Bool
named name dom.marker = false
named name (dom.formatting k tag) = bytes_eq name tag.name

none-left : (b : Bool) (n : ℕ) → cond b (suc n) n ≤ 0 → b ≡ false
none-left true n h = absurd (omega arith)
none-left false n h = refl

fewer : (b : Bool) (n : ℕ) → cond b (suc n) n ≤ 0 → n ≤ 0
fewer true n h = absurd (omega arith)
fewer false n h = h

unlisted-name : (name : List ℕ) (ds : List dom.Entry) → counted (named name) ds ≤ 0 → listed name ds ≡ None
unlisted-name name [] h = refl
unlisted-name name (dom.marker ∷ ds) h = refl
unlisted-name name (dom.formatting k tag ∷ ds) h =
    cond-false (bytes_eq name tag.name) (Some (record { number = k; tag = tag })) (listed name ds) (none-left (bytes_eq name tag.name) (counted (named name) ds) h)
    ∙ unlisted-name name ds (fewer (bytes_eq name tag.name) (counted (named name) ds) h)

name-key : (s : Store) (name : List ℕ) (e : Entry) → named name (entry_of s e) ≡ true → has_key s Name (read_on 0 name) e ≡ true
name-key s name Marker h = h
name-key s name (Formatting n tag) h =
    eq-eqb (read_on 0 (tag_at s tag).name) (read_on 0 name) (ap (read_on 0) (sym (same_name name (tag_at s tag).name h)))

pub none-named : (s : Store) (name : List ℕ) (xs : List Entry) → counted (has_key s Name (read_on 0 name)) xs ≤ 0 → listed name (seen s xs) ≡ None
none-named s name xs h =
    let same = seen-counted s (named name) xs in
    let few = counted-weaker (λ (e : Entry). named name (entry_of s e)) (has_key s Name (read_on 0 name)) (name-key s name) xs in
    unlisted-name name (seen s xs) (omega arith)

-- What an element looks like

pub look-other : (name : ℕ) (xs : List Attribute) → (length xs ≡ 1 → ⊥) → look_by name xs ≡ name
look-other name [] h = refl
look-other name (x ∷ []) h = absurd (h refl)
look-other name (x ∷ y ∷ xs) h = refl

pub look-one : (s : Store) (name : ℕ) (xs : List AttributeEntry) (d : AttributeEntry) → length xs ≡ 1 → look_by name (map (attribute_of s) xs) ≡ read_on (read_on name (bytes_of s (get_or xs 0 d).key)) (bytes_of s (get_or xs 0 d).value)
look-one s name [] d h = absurd (omega (arith, h))
look-one s name (x ∷ []) d h = refl
look-one s name (x ∷ y ∷ xs) d h = absurd (omega (arith, h))

pub tallied-to_marked : (s : Store) (key : Key) (counts : List ℕ) (xs : List Entry) → AreTallied s key counts xs → AreTallied s key counts (Marker ∷ xs)
tallied-to_marked s key counts xs t = t

-- one more that is counted
pub tallied-next : (s : Store) (key : Key) (counts : List ℕ) (xs : List Entry) (i : ℕ) (d : Entry) → i < length xs → AreTallied s key counts (get_or xs i d ∷ take i xs) → AreTallied s key counts (take (i + 1) xs)
tallied-next s key counts xs i d h t =
    let next : i + 1 ≡ suc i = omega arith in
    let e = get_or xs i d in
    tallied-same s key counts (e ∷ take i xs) (take (i + 1) xs)
    (λ (test : Entry → Bool).
    ap (λ (n : ℕ). counted test (take n xs)) next
    ∙ (ap (counted test) (take-suc xs i d h)
    ∙ (counted-with test (take i xs) [] e
    ∙ ap (λ (all : List Entry). counted test (e ∷ all)) (append-nil (take i xs))))) t

-- What is asked of an entry

pub tagged-at : (xs : List Entry) (place n tag : ℕ) (e : Entry) → place < length xs → e ≡ get_or xs place e → e ≡ Formatting n tag → IsTrue (is_tagged tag (get_or xs place Marker))
tagged-at xs place n tag e h is own =
    let same = entry-at xs place e (Formatting n tag) h is own in
    subst (λ (x : Entry). IsTrue (is_tagged tag x)) (sym same) (eq-eqb tag tag refl)

pub known-inserted : (s : Store) (number tag : ℕ) → tag < length s.tags.items → (xs : List Entry) → IsTrue (list_all (entry_is_within number tag) xs) → (place n own : ℕ) → own < length s.tags.items → IsTrue (list_all (is_known s) (insert xs place (Formatting n own)))
known-inserted s number tag h xs all place n own within =
    let test = is_known s in
    let known = entries-known s number tag h xs all in
    list_all-append test (take place xs) (Formatting n own ∷ drop place xs)
    ∙ and_from (list_all test (take place xs)) (is_tag_number s own && list_all test (drop place xs)) (all-take test place xs known)
    (and_from (is_tag_number s own) (list_all test (drop place xs)) (lt-ltb own (length s.tags.items) within) (all-drop test place xs known))

pub front-kept : (k n : ℕ) (xs : List Entry) → k ≤ n → take k (remove xs n) ≡ take k xs
front-kept zero n xs h = refl
front-kept (suc k) zero xs h = absurd (omega arith)
front-kept (suc k) (suc n) [] h = refl
front-kept (suc k) (suc n) (x ∷ xs) h = ap (λ (all : List Entry). x ∷ all) (front-kept k n xs (omega arith))

pub room-few : (s : Store) (own : Tag) (xs : List Entry) → alike_count own (seen s xs) ≤ 2 → seen s xs ≡ with_room own (seen s xs)
room-few s own xs h =
    sym (cond-false (nat_lt 2 (alike_count own (seen s xs))) (without_earliest own (seen s xs)) (seen s xs) (le-ltb 2 (alike_count own (seen s xs)) h))

any-default : (xs : List Entry) (n : ℕ) (d e : Entry) → n < length xs → get_or xs n d ≡ get_or xs n e
any-default [] n d e h = absurd (omega arith)
any-default (x ∷ xs) zero d e h = refl
any-default (x ∷ xs) (suc n) d e h = any-default xs n d e (omega arith)

-- an entry that was taken out
pub taken-at : (xs : List Entry) (n : ℕ) (d e own : Entry) → n < length xs → e ≡ get_or xs n d → get_or xs n own ≡ e
taken-at xs n d e own h is = any-default xs n own d h ∙ sym is
