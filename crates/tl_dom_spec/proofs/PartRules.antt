-- The rules of "in body" for tags, side by side.
use Rattle.std.proofs.Common.{Bool, List, None, Option, Some, [], ap, ap₂, codes, false, if◌then◌else◌, inl, inr, map, not, refl, subst, suc, sym, true, true≢false, ℕ, ◌&&◌, ◌||◌, ◌∙◌, ◌∷◌, ◌≡◌, ◌⊎◌}
use Rattle.std.specs.Prelude.{option_map}
use Rattle.std.specs.Str.{bytes_eq}
use Rattle.std.proofs.lemmas.Bool.{cases_Bool, cond-false, cond-true, false_from_ne_true, or_parts}
use Rattle.tl_html_spec.specs.Balanced as H
use Rattle.tl_tree_spec.specs.Builder as P
use Rattle.tl_tree_spec.specs.HtmlTreeBuilder as R
use Rattle.tl_tree_spec.specs.HtmlForest.{HtmlTag}
use Rattle.tl_tree_spec.specs.Groups as G
use Rattle.tl_dom_spec.specs.Groups as K
use Rattle.tl_dom_spec.specs.Tags as T
use Rattle.tl_dom_spec.specs.Tags.{Tag, bare_tag}
use Rattle.tl_dom_spec.specs.Path as W
use Rattle.tl_dom_spec.specs.Builder as B
use Rattle.tl_dom_spec.specs.Formatting as F
use Rattle.tl_dom_spec.specs.Adoption as A
use Rattle.tl_dom_spec.specs.Body as D
use Rattle.tl_dom_spec.proofs.PartNames.{facts, has_twin, is_break_group, is_button_group, is_elsewhere, is_misplaced, is_option_group, twin}
use Rattle.tl_dom_spec.proofs.PartPaths.{AreSame, IsStack, frames_of, has_within, is_open_number, name_of, path_of, same_all, tag_of, tag_with}
use Rattle.tl_dom_spec.proofs.PartActive.{listed_as, listed_is, marker_listed, nothing_unlisted, without_last_marker_is}
use Rattle.tl_dom_spec.proofs.PartBuilders.{Alike, Like, Sound, entry_of, is_cell_or_caption, is_formatting_group, stands_in}
use Rattle.tl_dom_spec.proofs.PartOps.{counting, frameset_not_ok, implied, in_mode, inserted, skipping, with_active, with_path}
use Rattle.tl_dom_spec.proofs.PartSound.{active_sound, agrees_marker, flow_top, group_of, implied_sound, is_plain, numbers_by, popped_sound, pushed_sound}
use Rattle.tl_dom_spec.proofs.PartClose.{button_scope_same, close, close_in, list_scope_same, scope_same}
use Rattle.tl_dom_spec.proofs.PartTests.{closes_block, closes_heading, closes_item, closes_named, closes_p, each_name, list_scope_covers, not_html, same_name, scope_covers, turned}
use Rattle.tl_dom_spec.proofs.PartBody.{Goes, after, closed_mode, description_closed, flows, heading_closed, item_closed, lets, names_are, p_closed, put, put_alone, put_formatting, rebuilt, special_same, stays}
use Rattle.tl_dom_spec.proofs.PartAdoption.{adoption, any_other, found_entry}
use Rattle.tl_dom_spec.proofs.PartSources.{bare_entries, bare_listed, bare_path, found-bare, has_within-bare, is_open_number-bare, listed-bare, nothing-bare, open-bare, seen, unlisted-bare, without_last_marker-bare}

abbrev is_in_body : P.Mode → Bool
is_in_body P.in_body = true
is_in_body _ = false

-- a rule of the whole builder that is done at once, alike to what the partial one answers
abbrev pub Finishes : P.Builder → B.Outcome → Type 0
Finishes b o = (r : B.Builder) × (o ≡ B.Done r) × Alike b r

some_is : {x y : P.Builder} → Some x ≡ Some y → x ≡ y
some_is e = cc

no_some : {y : P.Builder} → None ≡ Some y → ⊥
no_some e = cc

-- what a rule makes of both is what it answers
done : {b r q : P.Builder} {d : B.Builder} → Some r ≡ Some q → Goes b r d → (o : B.Outcome) → o ≡ B.Done d → Finishes q o
done {d = d} e g o is = (d, is, subst (λ (x : P.Builder). Alike x d) (some_is e) g.alike)

module _ {b : P.Builder} {c : B.Builder} (a : Alike b c) (k : P.is_flow b.mode ≡ true) where
  -- a button
  button_closed : (m : List ℕ) → G.group m ≡ G.a_button → Goes b (R.button_closed b m) (D.close_in_scope T.no_tag (T.is_any (codes "button")) c)
  button_closed m g =
      let button : m ≡ codes "button" = each_name (λ n. n ≡ codes "button") m (H.words (codes "button")) (refl, tt) (sym (facts m).button ∙ ap is_button_group g) in
      let same : (own : HtmlTag) → bytes_eq m own.name ≡ T.is_any (codes "button") (tag_of own) =
      λ own. ap (λ n. bytes_eq n own.name) button ∙ turned (codes "button") own.name ∙ or_none (bytes_eq own.name (codes "button")) in
      record {
        alike = close_in a k P.no_name (bytes_eq m) H.is_scope T.no_tag (T.is_any (codes "button")) T.is_scope
            (closes_block m H.is_scope (T.is_any (codes "button")) same (ap is_cell_or_caption g) (ap G.is_implied_group g) (not_html m (λ e. no_button (sym g ∙ e))) scope_covers)
            (scope_same b.stack.current b.stack.others (a.sound).stack);
        mode = closed_mode H.is_scope P.no_name (bytes_eq m) b;
      }
    where
      or_none : (v : Bool) → v ≡ (v || false)
      or_none true = refl
      or_none false = refl

      no_button : G.a_button ≡ G.elsewhere → ⊥
      no_button e = true≢false (ap is_button_group e)

  -- in a ruby
  ruby_closed : (but : List ℕ → Bool) (excepted : Tag → Bool) → ((own : HtmlTag) → but own.name ≡ excepted (tag_of own)) → Goes b (R.ruby_closed but b) (D.ruby_closed (seen excepted) c)
  ruby_closed but excepted same =
      let e : B.has_in_scope (T.is_any (codes "ruby")) c ≡ P.within (H.is_one_of (codes "ruby")) H.is_scope (P.names b.stack) =
      has_within-bare (T.is_any (codes "ruby")) T.is_scope c.path
      ∙ ap (W.has_within (T.is_any (codes "ruby")) T.is_scope) (a.like).path
      ∙ has_within (H.is_one_of (codes "ruby")) H.is_scope (T.is_any (codes "ruby")) T.is_scope b.stack
      (same_all (H.is_one_of (codes "ruby")) (T.is_any (codes "ruby")) (λ own. refl) (frames_of b.stack)) (scope_same b.stack.current b.stack.others (a.sound).stack) in
      let h = a.sound in
      let s : P.Stack = P.implied_closed but b.stack.current b.stack.others in
      let closed : Goes b (P.with_stack b s) (B.generate_implied_end_tags_except_for (seen excepted) c) = record {
        alike = record {
          sound = popped_sound b s h (implied_sound b.next b.active but b.stack.current b.stack.others h.stack h.stand h.numbers (flow_top b h k));
          like = implied a.like but excepted same h.stack;
        };
        mode = refl;
      } in
      elim (cases_Bool (P.within (H.is_one_of (codes "ruby")) H.is_scope (P.names b.stack))) [
        | inl y ↦ subst (λ (r : P.Builder). Goes b r (D.ruby_closed (seen excepted) c)) (sym (cond-true _ _ _ y)) (subst (Goes b (P.with_stack b s)) (sym (cond-true _ _ _ (e ∙ y))) closed)
        | inr n ↦ subst (λ (r : P.Builder). Goes b r (D.ruby_closed (seen excepted) c)) (sym (cond-false _ _ _ n)) (subst (Goes b b) (sym (cond-false _ _ _ (e ∙ n))) (stays a))
      ]

  -- no `select` is open
  no_select : B.has_in_scope T.is_select c ≡ false
  no_select =
      has_within-bare T.is_select T.is_scope c.path
      ∙ ap (W.has_within T.is_select T.is_scope) (a.like).path
      ∙ has_within (H.is_one_of (codes "select")) H.is_scope T.is_select T.is_scope b.stack
      (same_all (H.is_one_of (codes "select")) T.is_select (λ own. refl) (frames_of b.stack)) (scope_same b.stack.current b.stack.others (a.sound).stack)
      ∙ ap (P.within (H.is_one_of (codes "select")) H.is_scope) (names_are b.stack)
      ∙ none b.stack.current b.stack.others (a.sound).stack
    where
      off : (n : List ℕ) → has_twin (G.group n) ≡ true → H.is_one_of (codes "select") n ≡ false
      off n h = elim (cases_Bool (H.is_one_of (codes "select") n)) [
        | inl y ↦ absurd (true≢false (sym h ∙ ap (λ m. has_twin (G.group m)) (each_name (λ m. m ≡ codes "select") n (H.words (codes "select")) (refl, tt) y)))
        | inr m ↦ m
      ]

      and_none : (v : Bool) → (v && false) ≡ false
      and_none true = refl
      and_none false = refl

      none : (f : P.Frame) (os : List P.Frame) → IsStack f os → P.within (H.is_one_of (codes "select")) H.is_scope (map name_of (f ∷ os)) ≡ false
      none f [] h = ap (λ n. P.within (H.is_one_of (codes "select")) H.is_scope (n ∷ [])) h
      none f (o ∷ os) h =
          ap₂ (λ (x y : Bool). x || (not (H.is_scope (name_of f)) && y)) (off (name_of f) h.0) (none o os h.1) ∙ and_none (not (H.is_scope (name_of f)))

  -- a marker is put in
  marked : Goes b (record b { active = P.marker ∷ b.active }) (B.insert_marker c)
  marked = record {
    alike = record {
      sound = active_sound b (P.marker ∷ b.active) a.sound (a.sound).entries (numbers_by b.next b.active (P.marker ∷ b.active) (frames_of b.stack) (λ f h. h) (a.sound).numbers);
      like = with_active a.like (P.marker ∷ b.active) (B.marker ∷ c.active) (ap (λ es. B.marker ∷ es) (a.like).active);
    };
    mode = refl;
  }

  -- and goes with what it marks
  cleared_marker : Goes b (record b { active = P.without_last_marker b.active }) (B.clear_to_last_marker c)
  cleared_marker = record {
    alike = record {
      sound = active_sound b (P.without_last_marker b.active) a.sound (marker_listed b.next b.active (a.sound).entries)
          (numbers_by b.next b.active (P.without_last_marker b.active) (frames_of b.stack) (λ f. agrees_marker f b.active) (a.sound).numbers);
      like = with_active a.like (P.without_last_marker b.active) (B.without_last_marker c.active) (without_last_marker-bare c.active ∙ ap B.without_last_marker (a.like).active ∙ without_last_marker_is b.active);
    };
    mode = refl;
  }

  -- an `a` that is listed is ended: it is neither listed nor open then
  anchor_gone : (n : List ℕ) → is_formatting_group (G.group n) ≡ true → (r : P.Builder) → R.anchor_ended b n (P.listed n b.active) ≡ Some r → Goes b r (D.anchor_ended (F.listed n c.active) c)
  anchor_gone n g r h = from (P.listed n b.active) refl h
    where
      from : (o : Option P.Element) → P.listed n b.active ≡ o → R.anchor_ended b n o ≡ Some r → Goes b r (D.anchor_ended (F.listed n c.active) c)
      from None e h =
          subst (λ o. Goes b r (D.anchor_ended o c)) (sym (nothing-bare bare_listed (F.listed n c.active) (listed-bare n c.active ∙ ap (F.listed n) (a.like).active ∙ listed_is n b.active ∙ ap (option_map listed_as) e)))
          (subst (λ (q : P.Builder). Goes b q c) (some_is h) (stays a))
      from (Some x) e h = ended (R.adoption b n) refl h
        where
          ended : (o : Option P.Builder) → R.adoption b n ≡ o → R.anchor_gone x o ≡ Some r → Goes b r (D.anchor_ended (F.listed n c.active) c)
          ended None u w = absurd (no_some w)
          ended (Some b₁) u w = elim (cases_Bool (P.is_listed x.number b₁.active || P.is_open x.number (P.elements b₁.stack))) [
            | inl y ↦ absurd (no_some (sym (cond-true _ _ _ y) ∙ w))
            | inr m ↦ (
                let is : b₁ ≡ r = some_is (sym (cond-false _ _ _ m) ∙ w) in
                let two = or_parts (P.is_listed x.number b₁.active) (P.is_open x.number (P.elements b₁.stack)) m in
                let entry = found_entry n x b.next b.active e (a.sound).entries in
                let g₁ = adoption a k n g b₁ u in
                let l = (g₁.alike).like in
                let q : B.Builder = A.adoption_agency n c in
                let not_open : W.is_open_number (suc x.number) q.path ≡ false = is_open_number-bare (suc x.number) q.path ∙ ap (W.is_open_number (suc x.number)) l.path ∙ is_open_number x.number b₁.stack ∙ two.1 in
                let active : bare_entries (F.unlisted (suc x.number) q.active) ≡ map entry_of b₁.active = unlisted-bare (suc x.number) q.active ∙ ap (F.unlisted (suc x.number)) l.active ∙ nothing_unlisted x.number b₁.active two.0 in
                let path : bare_path (if W.is_open_number (suc x.number) q.path then W.taken_out (suc x.number) q.path else q.path) ≡ path_of (frames_of b₁.stack) = ap bare_path (cond-false _ _ _ not_open) ∙ l.path in
                let found = found-bare (F.listed n c.active) (suc x.number) (tag_of x.own) (listed-bare n c.active ∙ ap (F.listed n) (a.like).active ∙ listed_is n b.active ∙ ap (option_map listed_as) e) in
                let gone : Goes b b₁ (record q {
                  active = F.unlisted (suc x.number) q.active;
                  path = if W.is_open_number (suc x.number) q.path then W.taken_out (suc x.number) q.path else q.path;
                }) = lets g₁ (with_path (with_active l b₁.active (F.unlisted (suc x.number) q.active) active) b₁.stack
                (if W.is_open_number (suc x.number) q.path then W.taken_out (suc x.number) q.path else q.path) path) in
                subst (λ (z : P.Builder). Goes b z (D.anchor_ended (F.listed n c.active) c)) is
                (subst (λ o. Goes b b₁ (D.anchor_ended o c)) (sym found.is)
                (subst (λ m. Goes b b₁ (record (A.adoption_agency m c) {
                  active = F.unlisted (suc x.number) (A.adoption_agency m c).active;
                  path = if W.is_open_number (suc x.number) (A.adoption_agency m c).path then W.taken_out (suc x.number) (A.adoption_agency m c).path else (A.adoption_agency m c).path;
                })) (entry.name ∙ sym (ap (λ (t : Tag). t.name) found.same)) gone)))
          ]

-- start tags

plain_is : (g : G.Group) (m : List ℕ) → is_plain g ≡ true → G.group m ≡ g → is_plain (G.group m) ≡ true
plain_is g m h e = ap is_plain e ∙ h

twin_is : (m : List ℕ) (g : G.Group) → G.group m ≡ g → has_twin g ≡ true → K.group m ≡ twin g
twin_is m g e h = (facts m).twins (ap has_twin e ∙ h) ∙ ap twin e

module _ {b : P.Builder} {c : B.Builder} (a : Alike b c) (k : P.is_flow b.mode ≡ true) (own : HtmlTag) (source : Option ℕ) (closes : Bool) (r : P.Builder) where
  abbrev tag : Tag
  tag = tag_with source own

  abbrev Ends : G.Group → Type 0
  Ends g = Finishes r (D.body_start c (twin g) tag closes)

  -- inserted in both, and then changed in the whole one alone
  abbrev quiet : B.Builder → B.Builder
  quiet d = B.frameset_not_ok d

  calm : {q : P.Builder} {d : B.Builder} → Goes b q d → Goes b q (B.frameset_not_ok d)
  calm g = lets g (frameset_not_ok (g.alike).like)

  ready : {q : P.Builder} {d : B.Builder} → Goes b q d → P.is_flow q.mode ≡ true
  ready g = flows g k

  with_p_closed : Goes b (R.p_closed b) (D.close_p c)
  with_p_closed = p_closed a k

  with_formatting : Goes b (P.reconstructed b) (F.reconstruct_formatting c)
  with_formatting = rebuilt a k

  -- but in quirks mode
  before_table : Goes b (R.ready_for_table b) (if c.is_quirks then c else D.close_p c)
  before_table = by_mode b.reading.is_quirks c.is_quirks (a.like).quirks
    where
      by_mode : (v w : Bool) → w ≡ v → Goes b (if v then b else R.p_closed b) (if w then c else D.close_p c)
      by_mode true true e = stays a
      by_mode false false e = with_p_closed
      by_mode true false e = absurd (true≢false (sym e))
      by_mode false true e = absurd (true≢false e)

  -- a break, and other void elements
  void : (other : HtmlTag) → Goes b (P.alone (P.reconstructed b) other) (D.void_start c (tag_with source other))
  void other = calm (after with_formatting (put_alone with_formatting.alike (ready with_formatting) other source))

  abbrev nobr_in : B.Builder → Bool → B.Builder
  nobr_in d v = if v then F.reconstruct_formatting (A.adoption_agency own.name d) else d

  nobr : is_formatting_group (G.group own.name) ≡ true → R.body_start b G.a_nobr own ≡ Some r → Ends G.a_nobr
  nobr g h =
      let p = P.reconstructed b in
      let d = F.reconstruct_formatting c in
      let a₁ = with_formatting.alike in
      let e : B.has_in_scope (T.is_named own.name) d ≡ P.within (bytes_eq own.name) H.is_scope (P.names p.stack) =
      has_within-bare (T.is_named own.name) T.is_scope d.path
      ∙ ap (W.has_within (T.is_named own.name) T.is_scope) (a₁.like).path
      ∙ has_within (bytes_eq own.name) H.is_scope (T.is_named own.name) T.is_scope p.stack
      (same_all (bytes_eq own.name) (T.is_named own.name) (λ own. refl) (frames_of p.stack)) (scope_same p.stack.current p.stack.others (a₁.sound).stack) in
      elim (cases_Bool (P.within (bytes_eq own.name) H.is_scope (P.names p.stack))) [
        | inl y ↦ (
            let w : option_map (λ (q : P.Builder). P.formatted (P.reconstructed q) own) (R.adoption p own.name) ≡ Some r = sym (cond-true _ _ _ y) ∙ h in
            subst (λ v. Finishes r (B.Done (F.insert_formatting_element tag (nobr_in d v)))) (sym (e ∙ y)) (ended (R.adoption p own.name) refl w))
        | inr n ↦ (
            let w : Some (P.formatted p own) ≡ Some r = sym (cond-false _ _ _ n) ∙ h in
            subst (λ v. Finishes r (B.Done (F.insert_formatting_element tag (nobr_in d v)))) (sym (e ∙ n))
            (done w (after with_formatting (put_formatting a₁ (ready with_formatting) own source g)) _ refl))
      ]
    where
      ended : (o : Option P.Builder) → R.adoption (P.reconstructed b) own.name ≡ o → option_map (λ (q : P.Builder). P.formatted (P.reconstructed q) own) o ≡ Some r →
          Finishes r (B.Done (F.insert_formatting_element tag (nobr_in (F.reconstruct_formatting c) true)))
      ended None u w = absurd (no_some w)
      ended (Some q) u w =
          let g₁ = after with_formatting (adoption with_formatting.alike (ready with_formatting) own.name g q u) in
          let g₂ = after g₁ (rebuilt g₁.alike (ready g₁)) in
          done w (after g₂ (put_formatting g₂.alike (ready g₂) own source g)) _ refl

  start_of : (g : G.Group) → G.group own.name ≡ g → has_twin g ≡ true → R.body_start b g own ≡ Some r → Ends g
  start_of G.a_paragraph e t h = done h (after with_p_closed (put with_p_closed.alike (ready with_p_closed) own source (plain_is _ own.name refl e))) _ refl
  start_of G.a_block e t h = done h (after with_p_closed (put with_p_closed.alike (ready with_p_closed) own source (plain_is _ own.name refl e))) _ refl
  start_of G.a_heading e t h =
      let g₁ = heading_closed with_p_closed.alike (ready with_p_closed) in
      let g₂ = after with_p_closed g₁ in
      done h (after g₂ (put g₁.alike (ready g₂) own source (plain_is _ own.name refl e))) _ refl
  start_of G.a_preformatted e t h =
      let g = calm (after with_p_closed (put with_p_closed.alike (ready with_p_closed) own source (plain_is _ own.name refl e))) in
      done h (skips_after g) _ refl
    where
      skips_after : {q : P.Builder} {d : B.Builder} → Goes b q d → Goes b (record q { skips = true }) (record d { skips = true })
      skips_after g = record {
        alike = record {
          sound = record { stack = ((g.alike).sound).stack; stand = ((g.alike).sound).stand; entries = ((g.alike).sound).entries; numbers = ((g.alike).sound).numbers; mode = ((g.alike).sound).mode };
          like = skipping (g.alike).like true;
        };
        mode = g.mode;
      }
  start_of G.an_item e t h =
      let g₀ = calm (stays a) in
      let g₁ = after g₀ (item_closed g₀.alike (ready g₀)) in
      let g₂ = after g₁ (p_closed g₁.alike (ready g₁)) in
      done h (after g₂ (put g₂.alike (ready g₂) own source (plain_is _ own.name refl e))) _ refl
  start_of G.a_description e t h =
      let g₀ = calm (stays a) in
      let g₁ = after g₀ (description_closed g₀.alike (ready g₀)) in
      let g₂ = after g₁ (p_closed g₁.alike (ready g₁)) in
      done h (after g₂ (put g₂.alike (ready g₂) own source (plain_is _ own.name refl e))) _ refl
  start_of G.a_button e t h =
      let g₁ = button_closed a k own.name e in
      let g₂ = after g₁ (rebuilt g₁.alike (ready g₁)) in
      done h (calm (after g₂ (put g₂.alike (ready g₂) own source (plain_is _ own.name refl e)))) _ refl
  start_of G.an_anchor e t h = from (R.anchor_ended b own.name (P.listed own.name b.active)) refl h
    where
      from : (o : Option P.Builder) → R.anchor_ended b own.name (P.listed own.name b.active) ≡ o →
          option_map (λ (q : P.Builder). P.formatted (P.reconstructed q) own) o ≡ Some r → Ends G.an_anchor
      from None u w = absurd (no_some w)
      from (Some q) u w =
          let g₁ = anchor_gone a k own.name (ap is_formatting_group e) q u in
          let g₂ = after g₁ (rebuilt g₁.alike (ready g₁)) in
          done w (after g₂ (put_formatting g₂.alike (ready g₂) own source (ap is_formatting_group e))) _ refl
  start_of G.a_format e t h = done h (after with_formatting (put_formatting with_formatting.alike (ready with_formatting) own source (ap is_formatting_group e))) _ refl
  start_of G.a_nobr e t h = nobr (ap is_formatting_group e) h
  start_of G.a_mark e t h =
      let g₁ = after with_formatting (put with_formatting.alike (ready with_formatting) own source (plain_is _ own.name refl e)) in
      done h (calm (after g₁ (marked g₁.alike (ready g₁)))) _ refl
  start_of G.a_break e t h = done h (void own) _ refl
  start_of G.a_void e t h = done h (void own) _ refl
  start_of G.an_image e t h = done h (void (record own { name = codes "img" })) _ refl
  start_of G.a_detail e t h = done h (put_alone a k own source) _ refl
  start_of G.a_rule e t h =
      done h (calm (after with_p_closed (put_alone with_p_closed.alike (ready with_p_closed) own source))) _
      (ap (λ v. B.Done (B.frameset_not_ok (B.insert_and_pop tag (if v then B.generate_implied_end_tags (D.close_p c) else D.close_p c)))) (no_select with_p_closed.alike (ready with_p_closed)))
  start_of G.a_ruby_base e t h =
      let g₁ = ruby_closed a k P.no_name T.no_tag (λ own. refl) in
      done h (after g₁ (put g₁.alike (ready g₁) own source (plain_is _ own.name refl e))) _ refl
  start_of G.a_ruby_text e t h =
      let g₁ = ruby_closed a k R.is_rtc (T.is_any (codes "rtc")) (λ own. refl) in
      done h (after g₁ (put g₁.alike (ready g₁) own source (plain_is _ own.name refl e))) _ refl
  start_of G.a_table e t h =
      let g₁ = before_table in
      let q = R.ready_for_table b in
      let d = if c.is_quirks then c else D.close_p c in
      let top = flow_top q (g₁.alike).sound (ready g₁) in
      let sound : Sound (record (P.inserted q own) { mode = P.in_table }) =
      pushed_sound q own P.in_table (g₁.alike).sound (ap has_twin e) (ap (λ g. stands_in g (group_of q.stack.current)) e ∙ top) (sym (ap (λ g. P.mode_by g q.mode) e)) in
      let like : Like (record (P.inserted q own) { mode = P.in_table }) (record (B.frameset_not_ok (B.insert_element tag d)) { mode = B.in_table }) =
      in_mode (frameset_not_ok (inserted (g₁.alike).like own source)) P.in_table in (
        record (B.frameset_not_ok (B.insert_element tag d)) { mode = B.in_table },
        refl,
        subst (λ (x : P.Builder). Alike x (record (B.frameset_not_ok (B.insert_element tag d)) { mode = B.in_table })) (some_is h) (record { sound = sound; like = like }),
      )
  start_of G.a_caption e t h = done h (stays a) _ refl
  start_of G.a_column_group e t h = done h (stays a) _ refl
  start_of G.a_column e t h = done h (stays a) _ refl
  start_of G.a_table_body e t h = done h (stays a) _ refl
  start_of G.a_row e t h = done h (stays a) _ refl
  start_of G.a_cell e t h = done h (stays a) _ refl
  start_of G.any_other e t h = done h (after with_formatting (put with_formatting.alike (ready with_formatting) own source (plain_is _ own.name refl e))) _ refl
  start_of G.misplaced e t h = absurd (true≢false (sym t))
  start_of G.an_option e t h = absurd (true≢false (sym t))
  start_of G.elsewhere e t h = absurd (true≢false (sym t))

-- a start tag of any name
pub start_in_body : (b : P.Builder) (c : B.Builder) → Alike b c → P.is_flow b.mode ≡ true → (own : HtmlTag) (source : Option ℕ) (closes : Bool) (r : P.Builder) →
    R.body_start b (G.group own.name) own ≡ Some r → Finishes r (D.body_start c (K.group own.name) (tag_with source own) closes)
start_in_body b c a k own source closes r h = elim (cases_Bool (has_twin (G.group own.name))) [
  | inl y ↦ subst (λ g. Finishes r (D.body_start c g (tag_with source own) closes)) (sym ((facts own.name).twins y)) (start_of a k own source closes r (G.group own.name) refl y h)
  | inr n ↦ without (G.group own.name) refl n h
]
  where
    lost : (K.group own.name ≡ K.the_head) ⊎ (K.group own.name ≡ K.a_frame) → Some b ≡ Some r → Finishes r (D.body_start c (K.group own.name) (tag_with source own) closes)
    lost (inl e) w = subst (λ g. Finishes r (D.body_start c g (tag_with source own) closes)) (sym e) (done w (stays a) _ refl)
    lost (inr e) w = subst (λ g. Finishes r (D.body_start c g (tag_with source own) closes)) (sym e) (done w (stays a) _ refl)

    without : (g : G.Group) → G.group own.name ≡ g → has_twin g ≡ false → R.body_start b g own ≡ Some r → Finishes r (D.body_start c (K.group own.name) (tag_with source own) closes)
    without G.misplaced e n w = lost ((facts own.name).lost (ap is_misplaced e)) w
    without G.an_option e n w = absurd (no_some w)
    without G.elsewhere e n w = absurd (no_some w)
    without _ e n w = absurd (true≢false n)

-- end tags

abbrev bare_own : List ℕ → HtmlTag
bare_own name = record { name = name; attributes = [] }

module _ {b : P.Builder} {c : B.Builder} (a : Alike b c) (k : P.is_flow b.mode ≡ true) (m : List ℕ) (r : P.Builder) where
  scope_in : AreSame H.is_scope T.is_scope (frames_of b.stack)
  scope_in = scope_same b.stack.current b.stack.others (a.sound).stack

  in_scope : (test : List ℕ → Bool) (tested : Tag → Bool) → ((own : HtmlTag) → test own.name ≡ tested (tag_of own)) →
      B.has_in_scope (seen tested) c ≡ P.within test H.is_scope (P.names b.stack)
  in_scope test tested same =
      has_within-bare tested T.is_scope c.path ∙ ap (W.has_within tested T.is_scope) (a.like).path ∙ has_within test H.is_scope tested T.is_scope b.stack (same_all test tested same (frames_of b.stack)) scope_in

  block : (g : G.Group) → G.group m ≡ g → is_cell_or_caption g ≡ false → G.is_implied_group g ≡ false → is_elsewhere g ≡ false →
      Goes b (R.block_ended b m) (D.close_in_scope T.no_tag (T.is_named m) c)
  block g e apart implied there = record {
    alike = close_in a k P.no_name (bytes_eq m) H.is_scope T.no_tag (T.is_named m) T.is_scope
        (closes_block m H.is_scope (T.is_named m) (λ own. refl) (ap is_cell_or_caption e ∙ apart) (ap G.is_implied_group e ∙ implied)
        (not_html m (λ z. true≢false (sym (ap is_elsewhere (sym e ∙ z)) ∙ there))) scope_covers)
        scope_in;
    mode = closed_mode H.is_scope P.no_name (bytes_eq m) b;
  }

  heading : Goes b (R.heading_ended b) (D.close_in_scope T.no_tag T.is_heading c)
  heading = record {
    alike = close_in a k P.no_name G.is_heading H.is_scope T.no_tag T.is_heading T.is_scope closes_heading scope_in;
    mode = closed_mode H.is_scope P.no_name G.is_heading b;
  }

  item : Goes b (R.item_ended b) (D.item_ended c)
  item = record {
    alike = close_in a k G.is_item G.is_item H.is_list_scope (T.is_any (codes "li")) (T.is_any (codes "li")) T.is_list_scope
        (closes_item H.is_list_scope (T.is_any (codes "li")) (λ own. (facts own.name).item) list_scope_covers) (list_scope_same b.stack (a.sound).stack);
    mode = closed_mode H.is_list_scope G.is_item G.is_item b;
  }

  named : (g : G.Group) → G.group m ≡ g → is_cell_or_caption g ≡ false → is_elsewhere g ≡ false → Goes b (R.description_ended b m) (D.close_in_scope (T.is_named m) (T.is_named m) c)
  named g e apart there = record {
    alike = close_in a k (bytes_eq m) (bytes_eq m) H.is_scope (T.is_named m) (T.is_named m) T.is_scope
        (closes_named m H.is_scope (ap is_cell_or_caption e ∙ apart) (not_html m (λ z. true≢false (sym (ap is_elsewhere (sym e ∙ z)) ∙ there))) scope_covers) scope_in;
    mode = closed_mode H.is_scope (bytes_eq m) (bytes_eq m) b;
  }

  other : is_cell_or_caption (G.group m) ≡ false → is_elsewhere (G.group m) ≡ false → Goes b (R.other_ended b m) (A.any_other_end_tag m c)
  other apart there = any_other a k m apart (not_html m (λ z. true≢false (sym (ap is_elsewhere z) ∙ there)))

  abbrev ended_in : Bool → B.Builder
  ended_in v = B.close_except_for T.is_paragraph T.is_paragraph (if v then c else B.insert_implied (codes "p") c)

  -- `</p>` where none is open: an empty one
  paragraph : G.group m ≡ G.a_paragraph → Goes b (R.p_ended b m) (D.p_ended c)
  paragraph e =
      let name : m ≡ codes "p" = each_name (λ n. n ≡ codes "p") m (H.words (codes "p")) (refl, tt) (sym (facts m).paragraph ∙ ap G.is_paragraph_group e) in
      let test : B.has_in_button_scope T.is_paragraph c ≡ P.within G.is_paragraph H.is_button_scope (P.names b.stack) =
      has_within-bare T.is_paragraph T.is_button_scope c.path
      ∙ ap (W.has_within T.is_paragraph T.is_button_scope) (a.like).path
      ∙ has_within G.is_paragraph H.is_button_scope T.is_paragraph T.is_button_scope b.stack
      (same_all G.is_paragraph T.is_paragraph (λ own. (facts own.name).paragraph) (frames_of b.stack)) (button_scope_same b.stack (a.sound).stack) in
      elim (cases_Bool (P.within G.is_paragraph H.is_button_scope (P.names b.stack))) [
        | inl y ↦ subst (λ (q : P.Builder). Goes b q (D.p_ended c)) (sym (cond-true _ _ _ y))
            (subst (λ v. Goes b (P.with_stack b (P.closed_through G.is_paragraph G.is_paragraph b.stack)) (ended_in v)) (sym (test ∙ y))
            (record { alike = close a k G.is_paragraph G.is_paragraph H.is_button_scope T.is_paragraph T.is_paragraph closes_p y; mode = refl }))
        | inr n ↦ subst (λ (q : P.Builder). Goes b q (D.p_ended c)) (sym (cond-false _ _ _ n))
            (subst (λ v. Goes b (P.alone b (record { name = m; attributes = [] })) (ended_in v)) (sym (test ∙ n))
            (subst (λ x. Goes b (P.alone b (record { name = x; attributes = [] })) (ended_in false)) (sym name) empty))
      ]
    where
      empty : Goes b (P.alone b (bare_own (codes "p"))) (ended_in false)
      empty =
          let g₁ = put a k (bare_own (codes "p")) None refl in
          let g₂ = lets g₁ (counting (g₁.alike).like _ _ _) in
          let closed : Alike (P.with_stack (P.inserted b (bare_own (codes "p"))) (P.closed_through G.is_paragraph G.is_paragraph (P.inserted b (bare_own (codes "p"))).stack)) (ended_in false) =
          close g₂.alike k G.is_paragraph G.is_paragraph H.is_button_scope T.is_paragraph T.is_paragraph closes_p refl in
          record { alike = closed; mode = refl }

  mark : G.group m ≡ G.a_mark → Goes b (R.mark_ended b m) (D.mark_ended m c)
  mark e =
      let test = in_scope (bytes_eq m) (T.is_named m) (λ own. refl) in
      elim (cases_Bool (P.within (bytes_eq m) H.is_scope (P.names b.stack))) [
        | inl y ↦ (
            let closed = close a k P.no_name (bytes_eq m) H.is_scope T.no_tag (T.is_named m)
            (closes_block m H.is_scope (T.is_named m) (λ own. refl) (ap is_cell_or_caption e) (ap G.is_implied_group e) (not_html m (λ z. true≢false (ap is_elsewhere (sym z ∙ e)))) scope_covers) y in
            subst (λ (q : P.Builder). Goes b q (D.mark_ended m c)) (sym (cond-true _ _ _ y))
            (subst (λ (d : B.Builder). Goes b (record b { stack = P.closed_through P.no_name (bytes_eq m) b.stack; active = P.without_last_marker b.active }) d) (sym (cond-true _ _ _ (test ∙ y)))
            (record { alike = (cleared_marker closed k).alike; mode = refl })))
        | inr n ↦ subst (λ (q : P.Builder). Goes b q (D.mark_ended m c)) (sym (cond-false _ _ _ n)) (subst (Goes b b) (sym (cond-false _ _ _ (test ∙ n))) (stays a))
      ]

  line_break : Goes b (P.alone (P.reconstructed b) (record { name = m; attributes = [] })) (B.add_one (D.void_start c (tag_of (record { name = m; attributes = [] }))))
  line_break =
      let g₁ = rebuilt a k in
      let g₂ = after g₁ (put_alone g₁.alike (flows g₁ k) (record { name = m; attributes = [] }) None) in
      let g₃ = lets g₂ (frameset_not_ok (g₂.alike).like) in
      lets g₃ (counting (g₃.alike).like _ _ _)

  -- no cell and no caption is open in a body
  by_mode : (g : G.Group) (n : P.Mode) → P.mode_by g n ≡ P.in_body → (is_cell_or_caption g ≡ false) × (n ≡ P.in_body)
  by_mode G.a_table n h = absurd (true≢false (sym (ap is_in_body h)))
  by_mode G.a_caption n h = absurd (true≢false (sym (ap is_in_body h)))
  by_mode G.a_column_group n h = absurd (true≢false (sym (ap is_in_body h)))
  by_mode G.a_table_body n h = absurd (true≢false (sym (ap is_in_body h)))
  by_mode G.a_row n h = absurd (true≢false (sym (ap is_in_body h)))
  by_mode G.a_cell n h = absurd (true≢false (sym (ap is_in_body h)))
  by_mode _ n h = (refl, h)

  none_open : is_cell_or_caption (G.group m) ≡ true → (bounds : List ℕ → Bool) (ns : List (List ℕ)) → P.mode_of ns ≡ P.in_body → P.within (bytes_eq m) bounds ns ≡ false
  none_open part bounds [] h = refl
  none_open part bounds (n ∷ ns) h =
      let two = by_mode (G.group n) (P.mode_of ns) h in
      let off : bytes_eq m n ≡ false = false_from_ne_true (bytes_eq m n) (λ y. true≢false (sym part ∙ ap (λ x. is_cell_or_caption (G.group x)) (same_name m n y) ∙ two.0)) in
      ap₂ (λ (x y : Bool). x || (not (bounds n) && y)) off (none_open part bounds ns two.1) ∙ nothing (not (bounds n))
    where
      nothing : (v : Bool) → (v && false) ≡ false
      nothing true = refl
      nothing false = refl

  ignored : is_cell_or_caption (G.group m) ≡ true → b.mode ≡ P.in_body → Goes b (R.other_ended b m) (A.any_other_end_tag m c)
  ignored part body =
      let off = none_open part (R.is_special_in b) (P.names b.stack) (sym (a.sound).mode ∙ body) in
      let test : W.within (W.has_tag (T.is_named m)) (W.has_tag (T.is_special c.flags.counts_search)) (W.elements c.path) ≡ P.within (bytes_eq m) (R.is_special_in b) (P.names b.stack) =
      open-bare (W.has_tag (T.is_named m)) (W.has_tag (T.is_special c.flags.counts_search)) (W.has_tag (T.is_named m)) (W.has_tag (T.is_special c.flags.counts_search)) (λ _. refl) (λ _. refl) c.path
      ∙ ap (λ (p : W.Path). W.within (W.has_tag (T.is_named m)) (W.has_tag (T.is_special c.flags.counts_search)) (W.elements p)) (a.like).path
      ∙ has_within (bytes_eq m) (R.is_special_in b) (T.is_named m) (T.is_special c.flags.counts_search) b.stack
      (same_all (bytes_eq m) (T.is_named m) (λ own. refl) (frames_of b.stack)) (same_all (R.is_special_in b) (T.is_special c.flags.counts_search) (special_same a.like) (frames_of b.stack)) in
      subst (λ (q : P.Builder). Goes b q (A.any_other_end_tag m c)) (sym (cond-false _ _ _ off)) (subst (Goes b b) (sym (cond-false _ _ _ (test ∙ off))) (stays a))

  -- what is ended as any other element is
  rest : (G.is_part (G.group m) ≡ false) ⊎ (b.mode ≡ P.in_body) → is_elsewhere (G.group m) ≡ false → Goes b (R.other_ended b m) (A.any_other_end_tag m c)
  rest where_ there = elim (cases_Bool (is_cell_or_caption (G.group m))) [
    | inr n ↦ other n there
    | inl y ↦ by_place where_ y
  ]
    where
      part : (g : G.Group) → is_cell_or_caption g ≡ true → G.is_part g ≡ true
      part G.a_cell h = refl
      part G.a_caption h = refl
      part _ h = absurd (true≢false (sym h))

      by_place : (G.is_part (G.group m) ≡ false) ⊎ (b.mode ≡ P.in_body) → is_cell_or_caption (G.group m) ≡ true → Goes b (R.other_ended b m) (A.any_other_end_tag m c)
      by_place (inl n) y = absurd (true≢false (sym (part (G.group m) y) ∙ n))
      by_place (inr body) y = ignored y body

  abbrev EndsIn : K.Group → Type 0
  EndsIn g = Finishes r (D.body_end c g m)

  rest_of : (g : G.Group) → G.group m ≡ g → (G.is_part (G.group m) ≡ false) ⊎ (b.mode ≡ P.in_body) → is_elsewhere g ≡ false → Some (R.other_ended b m) ≡ Some r →
      (o : B.Outcome) → o ≡ B.Done (A.any_other_end_tag m c) → Finishes r o
  rest_of g e where_ there h o is = done h (rest where_ (ap is_elsewhere e ∙ there)) o is

  end_of : (g : G.Group) → G.group m ≡ g → (G.is_part (G.group m) ≡ false) ⊎ (b.mode ≡ P.in_body) → R.body_end b g m ≡ Some r → EndsIn (K.group m)
  end_of g e where_ h = by_twin g e where_ h
    where
      to_twin : (g : G.Group) → G.group m ≡ g → has_twin g ≡ true → EndsIn (twin g) → EndsIn (K.group m)
      to_twin g e t f = subst EndsIn (sym (twin_is m g e t)) f

      either_option : (K.group m ≡ K.an_option) ⊎ (K.group m ≡ K.an_option_group) → Some (R.other_ended b m) ≡ Some r → (G.is_part (G.group m) ≡ false) ⊎ (b.mode ≡ P.in_body) → G.group m ≡ G.an_option → EndsIn (K.group m)
      either_option (inl x) h w e = subst EndsIn (sym x) (rest_of G.an_option e w refl h _ refl)
      either_option (inr x) h w e = subst EndsIn (sym x) (rest_of G.an_option e w refl h _ refl)

      either_lost : (K.group m ≡ K.the_head) ⊎ (K.group m ≡ K.a_frame) → Some (R.other_ended b m) ≡ Some r → (G.is_part (G.group m) ≡ false) ⊎ (b.mode ≡ P.in_body) → G.group m ≡ G.misplaced → EndsIn (K.group m)
      either_lost (inl x) h w e = subst EndsIn (sym x) (rest_of G.misplaced e w refl h _ refl)
      either_lost (inr x) h w e = subst EndsIn (sym x) (rest_of G.misplaced e w refl h _ refl)

      formatting_end : is_formatting_group (G.group m) ≡ true → R.adoption b m ≡ Some r → (o : B.Outcome) → o ≡ B.Done (A.adoption_agency m c) → Finishes r o
      formatting_end f h o is = (A.adoption_agency m c, is, (adoption a k m f r h).alike)

      by_twin : (g : G.Group) → G.group m ≡ g → (G.is_part (G.group m) ≡ false) ⊎ (b.mode ≡ P.in_body) → R.body_end b g m ≡ Some r → EndsIn (K.group m)
      by_twin G.a_paragraph e w h = to_twin _ e refl (done h (paragraph e) _ refl)
      by_twin G.a_block e w h = to_twin _ e refl (done h (block _ e refl refl refl) _ refl)
      by_twin G.a_preformatted e w h = to_twin _ e refl (done h (block _ e refl refl refl) _ refl)
      by_twin G.a_button e w h = to_twin _ e refl (done h (block _ e refl refl refl) _ refl)
      by_twin G.a_heading e w h = to_twin _ e refl (done h heading _ refl)
      by_twin G.an_item e w h = to_twin _ e refl (done h item _ refl)
      by_twin G.a_description e w h = to_twin _ e refl (done h (named _ e refl refl) _ refl)
      by_twin G.an_anchor e w h = to_twin _ e refl (formatting_end (ap is_formatting_group e) h _ refl)
      by_twin G.a_format e w h = to_twin _ e refl (formatting_end (ap is_formatting_group e) h _ refl)
      by_twin G.a_nobr e w h = to_twin _ e refl (formatting_end (ap is_formatting_group e) h _ refl)
      by_twin G.a_mark e w h = to_twin _ e refl (done h (mark e) _ refl)
      by_twin G.a_break e w h =
          let name : m ≡ codes "br" = each_name (λ n. n ≡ codes "br") m (H.words (codes "br")) (refl, tt) (sym (facts m).line_break ∙ ap is_break_group e) in
          to_twin _ e refl (done h line_break _ (ap (λ n. B.Done (B.add_one (D.void_start c (bare_tag n)))) (sym name)))
      by_twin G.elsewhere e w h = absurd (no_some h)
      by_twin G.misplaced e w h = either_lost ((facts m).lost (ap is_misplaced e)) h w e
      by_twin G.an_option e w h = either_option ((facts m).options (ap is_option_group e)) h w e
      by_twin G.a_void e w h = to_twin _ e refl (rest_of _ e w refl h _ refl)
      by_twin G.an_image e w h = to_twin _ e refl (rest_of _ e w refl h _ refl)
      by_twin G.a_detail e w h = to_twin _ e refl (rest_of _ e w refl h _ refl)
      by_twin G.a_rule e w h = to_twin _ e refl (rest_of _ e w refl h _ refl)
      by_twin G.a_ruby_base e w h = to_twin _ e refl (rest_of _ e w refl h _ refl)
      by_twin G.a_ruby_text e w h = to_twin _ e refl (rest_of _ e w refl h _ refl)
      by_twin G.a_table e w h = to_twin _ e refl (rest_of _ e w refl h _ refl)
      by_twin G.a_caption e w h = to_twin _ e refl (rest_of _ e w refl h _ refl)
      by_twin G.a_column_group e w h = to_twin _ e refl (rest_of _ e w refl h _ refl)
      by_twin G.a_column e w h = to_twin _ e refl (rest_of _ e w refl h _ refl)
      by_twin G.a_table_body e w h = to_twin _ e refl (rest_of _ e w refl h _ refl)
      by_twin G.a_row e w h = to_twin _ e refl (rest_of _ e w refl h _ refl)
      by_twin G.a_cell e w h = to_twin _ e refl (rest_of _ e w refl h _ refl)
      by_twin G.any_other e w h = to_twin _ e refl (rest_of _ e w refl h _ refl)

-- an end tag of any name, but for one of parts of a table where one may be open
pub end_in_body : (b : P.Builder) (c : B.Builder) → Alike b c → P.is_flow b.mode ≡ true → (m : List ℕ) (r : P.Builder) →
    (G.is_part (G.group m) ≡ false) ⊎ (b.mode ≡ P.in_body) → R.body_end b (G.group m) m ≡ Some r → Finishes r (D.body_end c (K.group m) m)
end_in_body b c a k m r where_ h = end_of a k m r (G.group m) refl where_ h
