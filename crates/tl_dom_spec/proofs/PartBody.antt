-- The rules of "in body", side by side.
use Rattle.std.proofs.Common.{Bool, List, None, Option, Some, [], ap, ap₂, codes, false, if◌then◌else◌, inl, inr, map, not, refl, subst, sym, true, true≢false, ℕ, ◌&&◌, ◌==◌, ◌||◌, ◌∙◌, ◌∷◌, ◌≡◌}
use Rattle.std.specs.Char.{is_ascii_whitespace}
use Rattle.std.specs.Str.{bytes_eq}
use Rattle.std.proofs.lemmas.Bool.{and_parts, cases_Bool, cond-false, cond-true, or_parts, or_right}
use Rattle.std.proofs.lemmas.Slice.Eq.{bytes_eq-Decides}
use Rattle.tl_html_spec.specs.Balanced as H
use Rattle.tl_tree_spec.specs.Builder as P
use Rattle.tl_tree_spec.specs.HtmlTreeBuilder as R
use Rattle.tl_tree_spec.specs.HtmlForest.{HtmlTag}
use Rattle.tl_tree_spec.specs.Groups as G
use Rattle.tl_dom_spec.specs.Tags as T
use Rattle.tl_dom_spec.specs.Tags.{Tag}
use Rattle.tl_dom_spec.specs.Path as W
use Rattle.tl_dom_spec.specs.Builder as B
use Rattle.tl_dom_spec.specs.Formatting as F
use Rattle.tl_dom_spec.specs.Body as D
use Rattle.tl_dom_spec.proofs.PartNames.{facts}
use Rattle.tl_dom_spec.proofs.PartPaths.{AreSame, IsStack, elements_are, frame_of, frames_of, name_of, path_of, same_all, tag_of, tag_with}
use Rattle.tl_dom_spec.proofs.PartBuilders.{Alike, AreNumbered, Like, Sound, Stand, is_cell_or_caption, is_formatting_group}
use Rattle.tl_dom_spec.proofs.PartOps.{alone, character, formatted, frameset_not_ok, inserted, reconstructed, with_path}
use Rattle.tl_dom_spec.proofs.PartSound.{Popped, alone_sound, character_sound, formatted_sound, group_of, inserted_sound, is_plain, plain_popped, popped_sound, reconstructed_sound, under}
use Rattle.tl_dom_spec.proofs.PartClose.{button_scope_same, close, close_in}
use Rattle.tl_dom_spec.proofs.PartTests.{each_name, closes_item, closes_named, closes_p, item_bound_covers, not_html, turned}
use Rattle.tl_dom_spec.proofs.PartSources.{closed_item-bare, earlier-bare, elements-bare, popped-bare, seen, top-bare}
use Rattle.tl_dom_spec.specs.Partial.{unnumbered}
use Rattle.std.specs.Prelude.{option_map}

-- both after a rule, with the mode of before
pub record Goes (b r : P.Builder) (c : B.Builder) : Type 0 where
  pub alike : Alike r c
  pub mode : r.mode ≡ b.mode

pub flows : {b r : P.Builder} {c : B.Builder} → Goes b r c → P.is_flow b.mode ≡ true → P.is_flow r.mode ≡ true
flows g k = ap P.is_flow g.mode ∙ k

pub after : {b r q : P.Builder} {c d : B.Builder} → Goes b r c → Goes r q d → Goes b q d
after g h = record { alike = h.alike; mode = h.mode ∙ g.mode }

pub stays : {b : P.Builder} {c : B.Builder} → Alike b c → Goes b b c
stays a = record { alike = a; mode = refl }

-- what only the whole builder does
pub lets : {b r : P.Builder} {c d : B.Builder} → Goes b r c → Like r d → Goes b r d
lets g l = record { alike = record { sound = (g.alike).sound; like = l }; mode = g.mode }

pub either_way : {r : P.Builder} {x y : B.Builder} (v : Bool) → Alike r x → Alike r y → Alike r (if v then x else y)
either_way true h k = h
either_way false h k = k

pub closed_mode : (bounds but test : List ℕ → Bool) (b : P.Builder) → (R.closed_in bounds but test b).mode ≡ b.mode
closed_mode bounds but test b = elim (cases_Bool (P.within test bounds (P.names b.stack))) [
  | inl y ↦ ap (λ (r : P.Builder). r.mode) (cond-true _ _ _ y)
  | inr n ↦ ap (λ (r : P.Builder). r.mode) (cond-false _ _ _ n)
]

module _ {b : P.Builder} {c : B.Builder} (a : Alike b c) (k : P.is_flow b.mode ≡ true) where
  pub p_closed : Goes b (R.p_closed b) (D.close_p c)
  p_closed = record {
    alike = close_in a k G.is_paragraph G.is_paragraph H.is_button_scope T.is_paragraph T.is_paragraph T.is_button_scope closes_p (button_scope_same b.stack (a.sound).stack);
    mode = closed_mode H.is_button_scope G.is_paragraph G.is_paragraph b;
  }

  pub put : (own : HtmlTag) (source : Option ℕ) → is_plain (G.group own.name) ≡ true → Goes b (P.inserted b own) (B.insert_element (tag_with source own) c)
  put own source plain = record {
    alike = record { sound = inserted_sound b own a.sound k plain; like = inserted a.like own source };
    mode = refl;
  }

  pub put_alone : (own : HtmlTag) (source : Option ℕ) → Goes b (P.alone b own) (B.insert_and_pop (tag_with source own) c)
  put_alone own source = record {
    alike = record { sound = alone_sound b own a.sound; like = alone a.like own source };
    mode = refl;
  }

  pub put_formatting : (own : HtmlTag) (source : Option ℕ) → is_formatting_group (G.group own.name) ≡ true → Goes b (P.formatted b own) (F.insert_formatting_element (tag_with source own) c)
  put_formatting own source g = record {
    alike = record { sound = formatted_sound b own a.sound k g; like = formatted a.like own source };
    mode = refl;
  }

  pub rebuilt : Goes b (P.reconstructed b) (F.reconstruct_formatting c)
  rebuilt =
      let s = reconstructed_sound b a.sound k in
      record { alike = record { sound = s.0; like = reconstructed a.like }; mode = s.1 }

  pub character_in_body : (x : ℕ) → Alike (if x == 0 then b else P.with_character (P.reconstructed b) x) (D.body_character x c)
  character_in_body x = elim (cases_Bool (x == 0)) [
    | inl y ↦ rw y a
    | inr n ↦ rw n (either_way (is_ascii_whitespace x) put_character (record { sound = put_character.sound; like = frameset_not_ok put_character.like }))
  ]
    where
      put_character : Alike (P.with_character (P.reconstructed b) x) (B.insert_character x (F.reconstruct_formatting c))
      put_character = record {
        sound = character_sound (P.reconstructed b) x (rebuilt.alike).sound;
        like = character (rebuilt.alike).like x;
      }

-- an element that is current, and plain, is popped
pub popped_current : {b : P.Builder} {c : B.Builder} (a : Alike b c) → P.is_flow b.mode ≡ true → is_plain (group_of b.stack.current) ≡ true →
    Goes b (P.with_stack b (P.popped b.stack.current b.stack.others)) (B.pop_current_node c)
popped_current {b = b} {c = c} a k plain = from b.stack.others refl
  where
    from : (os : List P.Frame) → b.stack.others ≡ os → Goes b (P.with_stack b (P.popped b.stack.current b.stack.others)) (B.pop_current_node c)
    from [] e = absurd (true≢false (sym plain ∙ ap (λ n. is_plain (G.group n)) (subst (IsStack b.stack.current) e (a.sound).stack)))
    from (o ∷ os) e =
        let f = b.stack.current in
        let s : P.Stack = record { current = P.closed_into o f; others = os } in
        let u = under b.next b.active f o os plain (subst (IsStack f) e (a.sound).stack) (subst (Stand f) e (a.sound).stand) (subst (λ fs. AreNumbered b.next b.active (f ∷ fs)) e (a.sound).numbers) in
        let p : Popped (P.names b.stack) b.next b.active s =
        subst (λ os. Popped (P.names (record { current = f; others = os })) b.next b.active s) (sym e)
        (plain_popped b.next b.active f o os s plain (record { stack = u.0; stand = u.1; numbers = u.2; mode = refl; top = u.3 })) in
        let is : P.popped f b.stack.others ≡ s = ap (P.popped f) e in
        record {
          alike = record {
            sound = subst (λ (t : P.Stack). Sound (P.with_stack b t)) (sym is) (popped_sound b s a.sound p);
            like = subst (λ (t : P.Stack). Like (P.with_stack b t) (B.pop_current_node c)) (sym is)
                (with_path a.like s (W.popped c.path) (popped-bare c.path ∙ ap W.popped ((a.like).path ∙ ap (λ os. path_of (f ∷ os)) e)));
          };
          mode = refl;
        }

-- tests of the current element
pub current_tag_is : {b : P.Builder} {c : B.Builder} (h : Like b c) → unnumbered (B.current_tag c) ≡ tag_of b.stack.current.element.own
current_tag_is {c = c} h = ap (λ (f : W.Frame). f.tag) (top-bare c.path) ∙ ap (λ (p : W.Path). (W.top p).tag) h.path

heading_plain : (g : G.Group) → G.is_heading_group g ≡ true → is_plain g ≡ true
heading_plain G.a_heading h = refl
heading_plain _ h = absurd (true≢false (sym h))

pub heading_closed : {b : P.Builder} {c : B.Builder} (a : Alike b c) → P.is_flow b.mode ≡ true → Goes b (R.heading_closed b) (D.heading_closed c)
heading_closed {b = b} {c = c} a k =
    let e : T.is_heading (B.current_tag c) ≡ G.is_heading (name_of b.stack.current) = ap T.is_heading (current_tag_is a.like) ∙ sym (facts (name_of b.stack.current)).heading in
    elim (cases_Bool (G.is_heading (name_of b.stack.current))) [
      | inl y ↦ subst (λ (r : P.Builder). Goes b r (D.heading_closed c)) (sym (cond-true _ _ _ y))
          (subst (Goes b (P.with_stack b (P.popped b.stack.current b.stack.others))) (sym (cond-true _ _ _ (e ∙ y))) (popped_current a k (heading_plain (group_of b.stack.current) y)))
      | inr n ↦ subst (λ (r : P.Builder). Goes b r (D.heading_closed c)) (sym (cond-false _ _ _ n))
          (subst (Goes b b) (sym (cond-false _ _ _ (e ∙ n))) (stays a))
    ]

-- an earlier item, or description

earlier-none : (test bounds : List ℕ → Bool) (tested bounded : Tag → Bool) (fs : List P.Frame) → AreSame test tested fs → AreSame bounds bounded fs →
    P.within test bounds (map name_of fs) ≡ false → D.earlier_item tested bounded (map frame_of fs) ≡ None
earlier-none test bounds tested bounded [] h k w = refl
earlier-none test bounds tested bounded (f ∷ fs) h k w =
    let two = or_parts (test (name_of f)) _ w in
    cond-false _ _ _ (sym h.0 ∙ two.0)
    ∙ elim (cases_Bool (bounds (name_of f))) [
      | inl y ↦ cond-true _ _ _ (sym k.0 ∙ y)
      | inr n ↦ cond-false _ _ _ (sym k.0 ∙ n) ∙ earlier-none test bounds tested bounded fs h.1 k.1 (sym (ap (λ v. not v && P.within test bounds (map name_of fs)) n) ∙ two.1)
    ]

record Earlier (test : List ℕ → Bool) (tested bounded : Tag → Bool) (fs : List P.Frame) : Type 0 where
  own : HtmlTag
  is : D.earlier_item tested bounded (map frame_of fs) ≡ Some (tag_of own)
  passes : test own.name ≡ true
  found : own.name ≡ R.found test (map name_of fs)

earlier-some : (test bounds : List ℕ → Bool) (tested bounded : Tag → Bool) (fs : List P.Frame) → AreSame test tested fs → AreSame bounds bounded fs →
    P.within test bounds (map name_of fs) ≡ true → Earlier test tested bounded fs
earlier-some test bounds tested bounded [] h k w = absurd (true≢false (sym w))
earlier-some test bounds tested bounded (f ∷ fs) h k w = elim (cases_Bool (test (name_of f))) [
  | inl y ↦ record {
    own = f.element.own;
    is = cond-true _ _ _ (sym h.0 ∙ y);
    passes = y;
    found = sym (cond-true _ _ _ y);
  }
  | inr n ↦ (
      let deeper : (not (bounds (name_of f)) && P.within test bounds (map name_of fs)) ≡ true =
      sym (ap (λ v. v || (not (bounds (name_of f)) && P.within test bounds (map name_of fs))) n) ∙ w in
      let two = and_parts (not (bounds (name_of f))) _ deeper in
      let more = earlier-some test bounds tested bounded fs h.1 k.1 two.1 in
      record {
        own = more.own;
        is = cond-false _ _ _ (sym h.0 ∙ n) ∙ cond-false _ _ _ (sym k.0 ∙ was_off (bounds (name_of f)) two.0) ∙ more.is;
        passes = more.passes;
        found = more.found ∙ sym (cond-false _ _ _ n);
      })
]
  where
    was_off : (v : Bool) → not v ≡ true → v ≡ false
    was_off true h = absurd (true≢false (sym h))
    was_off false h = refl

-- what bounds the search for an item, and that of any other end tag
item_bound_same : {b : P.Builder} {c : B.Builder} (h : Like b c) (own : HtmlTag) → R.is_item_bound_in b own.name ≡ T.is_item_bound c.flags.counts_search (tag_of own)
item_bound_same {b = b} {c = c} h own =
    swapped (H.is_special own.name) (not (H.is_one_of (codes "address div p") own.name)) (b.reading.counts_search || not (H.is_one_of (codes "search") own.name))
    ∙ ap (λ v. T.is_item_bound v (tag_of own)) (sym h.search)
  where
    swapped : (x y z : Bool) → ((x && y) && z) ≡ ((x && z) && y)
    swapped true true true = refl
    swapped true true false = refl
    swapped true false true = refl
    swapped true false false = refl
    swapped false y z = refl

pub special_same : {b : P.Builder} {c : B.Builder} (h : Like b c) (own : HtmlTag) → R.is_special_in b own.name ≡ T.is_special c.flags.counts_search (tag_of own)
special_same h own = ap (λ v. T.is_special v (tag_of own)) (sym h.search)

pub names_are : (s : P.Stack) → P.names s ≡ map name_of (frames_of s)
names_are s = ap (λ ns. name_of s.current ∷ ns) (others s.others)
  where
    others : (fs : List P.Frame) → map (λ (e : P.Element). e.own.name) (map (λ (f : P.Frame). f.element) fs) ≡ map name_of fs
    others [] = refl
    others (f ∷ fs) = ap (λ ns. name_of f ∷ ns) (others fs)

module _ {b : P.Builder} {c : B.Builder} (a : Alike b c) (k : P.is_flow b.mode ≡ true) where
  abbrev bounded : Tag → Bool
  bounded = T.is_item_bound c.flags.counts_search

  abbrev looked : (Tag → Bool) → Option Tag
  looked tested = D.earlier_item (seen tested) (seen bounded) (W.elements c.path)

  looked_is : (tested : Tag → Bool) → option_map unnumbered (looked tested) ≡ D.earlier_item tested bounded (map frame_of (frames_of b.stack))
  looked_is tested = earlier-bare tested bounded (W.elements c.path) ∙ ap (D.earlier_item tested bounded) (elements-bare c.path ∙ ap W.elements (a.like).path ∙ elements_are (frames_of b.stack))

  same_bounds : AreSame (R.is_item_bound_in b) bounded (frames_of b.stack)
  same_bounds = same_all (R.is_item_bound_in b) bounded (item_bound_same a.like) (frames_of b.stack)

  -- li
  pub item_closed : Goes b (R.item_closed b) (D.item_closed_at (looked (T.is_any (codes "li"))) c)
  item_closed = elim (cases_Bool (P.within G.is_item (R.is_item_bound_in b) (P.names b.stack))) [
    | inl y ↦ (
        let e = earlier-some G.is_item (R.is_item_bound_in b) (T.is_any (codes "li")) bounded (frames_of b.stack)
        (same_all G.is_item (T.is_any (codes "li")) (λ own. (facts own.name).item) (frames_of b.stack)) same_bounds (ap (P.within G.is_item (R.is_item_bound_in b)) (sym (names_are b.stack)) ∙ y) in
        let li : codes "li" ≡ (e.own).name = sym (each_name (λ n. n ≡ codes "li") (e.own).name (H.words (codes "li")) (refl, tt) (sym (facts (e.own).name).item ∙ e.passes)) in
        let same : (own : HtmlTag) → G.is_item own.name ≡ T.is_named (e.own).name (tag_of own) =
        λ own. (facts own.name).item ∙ or_none (bytes_eq own.name (codes "li")) ∙ turned own.name (codes "li") ∙ ap (λ n. bytes_eq n own.name) li in
        subst (λ (r : P.Builder). Goes b r (D.item_closed_at (looked (T.is_any (codes "li"))) c)) (sym (cond-true _ _ _ y))
        (subst (Goes b (P.with_stack b (P.closed_through G.is_item G.is_item b.stack))) (sym (closed_item-bare (looked (T.is_any (codes "li"))) c ∙ ap (λ o. D.item_closed_at o c) (looked_is (T.is_any (codes "li")) ∙ e.is)))
        (record {
          alike = close a k G.is_item G.is_item (R.is_item_bound_in b) (T.is_named (e.own).name) (T.is_named (e.own).name) (closes_item (R.is_item_bound_in b) (T.is_named (e.own).name) same (item_bound_covers b)) y;
          mode = refl;
        })))
    | inr n ↦ (
        let e = earlier-none G.is_item (R.is_item_bound_in b) (T.is_any (codes "li")) bounded (frames_of b.stack)
        (same_all G.is_item (T.is_any (codes "li")) (λ own. (facts own.name).item) (frames_of b.stack)) same_bounds (ap (P.within G.is_item (R.is_item_bound_in b)) (sym (names_are b.stack)) ∙ n) in
        subst (λ (r : P.Builder). Goes b r (D.item_closed_at (looked (T.is_any (codes "li"))) c)) (sym (cond-false _ _ _ n))
        (subst (Goes b b) (sym (closed_item-bare (looked (T.is_any (codes "li"))) c ∙ ap (λ o. D.item_closed_at o c) (looked_is (T.is_any (codes "li")) ∙ e))) (stays a)))
  ]
    where
      or_none : (v : Bool) → (v || false) ≡ v
      or_none true = refl
      or_none false = refl

  -- dd, dt
  pub description_closed : Goes b (R.description_closed b) (D.item_closed_at (looked (T.is_any (codes "dd dt"))) c)
  description_closed = elim (cases_Bool (P.within G.is_description (R.is_item_bound_in b) (P.names b.stack))) [
    | inl y ↦ (
        let e = earlier-some G.is_description (R.is_item_bound_in b) (T.is_any (codes "dd dt")) bounded (frames_of b.stack)
        (same_all G.is_description (T.is_any (codes "dd dt")) (λ own. (facts own.name).description) (frames_of b.stack)) same_bounds (ap (P.within G.is_description (R.is_item_bound_in b)) (sym (names_are b.stack)) ∙ y) in
        let m : List ℕ = R.found G.is_description (P.names b.stack) in
        let is : (e.own).name ≡ m = e.found ∙ ap (R.found G.is_description) (sym (names_are b.stack)) in
        let passes : G.is_description m ≡ true = ap G.is_description (sym is) ∙ e.passes in
        let w : P.within (bytes_eq m) (R.is_item_bound_in b) (P.names b.stack) ≡ true = within_found G.is_description (R.is_item_bound_in b) (P.names b.stack) y in
        subst (λ (r : P.Builder). Goes b r (D.item_closed_at (looked (T.is_any (codes "dd dt"))) c)) (sym (cond-true _ _ _ y))
        (subst (Goes b (P.with_stack b (P.closed_through (bytes_eq m) (bytes_eq m) b.stack))) (sym (closed_item-bare (looked (T.is_any (codes "dd dt"))) c ∙ ap (λ o. D.item_closed_at o c) (looked_is (T.is_any (codes "dd dt")) ∙ e.is)))
        (subst (λ n. Goes b (P.with_stack b (P.closed_through (bytes_eq m) (bytes_eq m) b.stack)) (B.close_except_for (T.is_named n) (T.is_named n) c)) (sym is)
        (record {
          alike = close a k (bytes_eq m) (bytes_eq m) (R.is_item_bound_in b) (T.is_named m) (T.is_named m)
              (closes_named m (R.is_item_bound_in b) (description_apart (G.group m) passes) (not_html m (λ z. true≢false (sym passes ∙ ap G.is_description_group z))) (item_bound_covers b)) w;
          mode = refl;
        }))))
    | inr n ↦ (
        let e = earlier-none G.is_description (R.is_item_bound_in b) (T.is_any (codes "dd dt")) bounded (frames_of b.stack)
        (same_all G.is_description (T.is_any (codes "dd dt")) (λ own. (facts own.name).description) (frames_of b.stack)) same_bounds (ap (P.within G.is_description (R.is_item_bound_in b)) (sym (names_are b.stack)) ∙ n) in
        subst (λ (r : P.Builder). Goes b r (D.item_closed_at (looked (T.is_any (codes "dd dt"))) c)) (sym (cond-false _ _ _ n))
        (subst (Goes b b) (sym (closed_item-bare (looked (T.is_any (codes "dd dt"))) c ∙ ap (λ o. D.item_closed_at o c) (looked_is (T.is_any (codes "dd dt")) ∙ e))) (stays a)))
  ]
    where
      description_apart : (g : G.Group) → G.is_description_group g ≡ true → is_cell_or_caption g ≡ false
      description_apart G.a_description h = refl
      description_apart _ h = absurd (true≢false (sym h))

      within_found : (test bounds : List ℕ → Bool) (ns : List (List ℕ)) → P.within test bounds ns ≡ true → P.within (bytes_eq (R.found test ns)) bounds ns ≡ true
      within_found test bounds [] w = absurd (true≢false (sym w))
      within_found test bounds (n ∷ ns) w = elim (cases_Bool (test n)) [
        | inl y ↦ ap (λ m. P.within (bytes_eq m) bounds (n ∷ ns)) (cond-true _ _ _ y) ∙ ap (λ v. v || (not (bounds n) && P.within (bytes_eq n) bounds ns)) ((bytes_eq-Decides n n).1 refl)
        | inr m ↦ (
            let deeper : (not (bounds n) && P.within test bounds ns) ≡ true = sym (ap (λ v. v || (not (bounds n) && P.within test bounds ns)) m) ∙ w in
            let two = and_parts (not (bounds n)) _ deeper in
            ap (λ x. P.within (bytes_eq x) bounds (n ∷ ns)) (cond-false _ _ _ m)
            ∙ or_right (bytes_eq (R.found test ns) n) _ (ap₂ (λ (x y : Bool). x && y) two.0 (within_found test bounds ns two.1)))
      ]
