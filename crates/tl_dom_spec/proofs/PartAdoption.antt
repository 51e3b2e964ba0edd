-- The adoption agency algorithm, where it has no furthest block, side by side.
use Rattle.std.proofs.Common.{◌≡◌, ℕ, suc, Bool, true, false, not, ◌&&◌, ◌==◌, List, [], ◌∷◌, map, Option, Some, None, codes, refl, ap, ap₂, sym, ◌∙◌, subst, inl, inr, true≢false}
use Rattle.std.specs.Prelude.{option_map}
use Rattle.std.specs.Str.{bytes_eq}
use Rattle.std.proofs.lemmas.Bool.{and_parts, cases_Bool, cond-false, cond-true, or_parts}
use Rattle.tl_html_spec.specs.Balanced as H
use Rattle.tl_tree_spec.specs.Builder as P
use Rattle.tl_tree_spec.specs.HtmlTreeBuilder as R
use Rattle.tl_tree_spec.specs.HtmlForest.{HtmlTag}
use Rattle.tl_tree_spec.specs.Groups as G
use Rattle.tl_dom_spec.specs.Tags as T
use Rattle.tl_dom_spec.specs.Tags.{Tag}
use Rattle.tl_dom_spec.specs.Path as W
use Rattle.tl_dom_spec.specs.Builder as B
use Rattle.tl_dom_spec.specs.Formatting as F
use Rattle.tl_dom_spec.specs.Adoption as A
use Rattle.tl_dom_spec.proofs.PartPaths.{elements_are, eq_suc, frame_of, frames_of, has_number_within, is_open_number, name_of, same_all, tag_of, through_is}
use Rattle.tl_dom_spec.proofs.PartActive.{is_listed_is, listed_as, listed_is, unlisted_is, unlisted_listed}
use Rattle.tl_dom_spec.proofs.PartBuilders.{Agrees, Alike, AreListed, is_cell_or_caption, is_formatting_group}
use Rattle.tl_dom_spec.proofs.PartOps.{with_active, with_path}
use Rattle.tl_dom_spec.proofs.PartSound.{active_sound, agrees_unlisted, flow_top, formatting_plain, group_of, numbers_by, popped_sound, through_sound}
use Rattle.tl_dom_spec.proofs.PartClose.{close_in, scope_same}
use Rattle.tl_dom_spec.proofs.PartTests.{closes_named, not_html, same_name, scope_covers, special_covers}
use Rattle.tl_dom_spec.proofs.PartBody.{Goes, closed_mode, popped_current, special_same, stays}
use Rattle.tl_dom_spec.proofs.PartSources.{bare_frame, bare_listed, bare_path, elements-bare, found-bare, is_listed-bare, is_open_number-bare, listed-bare, nothing-bare, open-bare, outermost-bare, popped_through-bare, top-bare, unlisted-bare}

-- groups of formatting elements

formatting_apart : (g : G.Group) → is_formatting_group g ≡ true → is_cell_or_caption g ≡ false
formatting_apart G.a_format h = refl
formatting_apart G.an_anchor h = refl
formatting_apart G.a_nobr h = refl
formatting_apart _ h = absurd (true≢false (sym h))

formatting_elsewhere : (m : List ℕ) → is_formatting_group (G.group m) ≡ true → (G.group m ≡ G.elsewhere) → ⊥
formatting_elsewhere m h e = true≢false (sym h ∙ ap is_formatting_group e)

-- no special element stands further in than one that has no furthest block
no_furthest : (special : List ℕ → Bool) (tested : Tag → Bool) → ((own : HtmlTag) → special own.name ≡ tested (tag_of own)) → (k : ℕ) (fs : List P.Frame) →
    R.has_furthest_block special k (map (λ (f : P.Frame). f.element) fs) ≡ false → A.outermost tested (suc k) None (map frame_of fs) ≡ None
no_furthest special tested same k [] h = refl
no_furthest special tested same k (f ∷ fs) h = elim (cases_Bool (f.element.number == k)) [
  | inl y ↦ cond-true _ _ _ (eq_suc f.element.number k ∙ y)
  | inr n ↦ (
      let two = or_parts (special (name_of f)) _ (sym (cond-false _ _ _ n) ∙ h) in
      cond-false _ _ _ (eq_suc f.element.number k ∙ n)
      ∙ ap (λ (o : Option W.Frame). A.outermost tested (suc k) o (map frame_of fs)) (cond-false _ _ _ (sym (same f.element.own) ∙ two.0))
      ∙ no_furthest special tested same k fs two.1)
]

-- an entry that is found is one that is listed, of that name
pub record Entry (n : List ℕ) (e : P.Element) (next : ℕ) (es : List P.Entry) : Type 0 where
  pub formatting : is_formatting_group (G.group e.own.name) ≡ true
  pub name : n ≡ e.own.name
  pub agrees : (f : P.Frame) → Agrees f es → (f.element.number == e.number) ≡ true → f.element.own ≡ e.own

pub found_entry : (n : List ℕ) (e : P.Element) (next : ℕ) (es : List P.Entry) → P.listed n es ≡ Some e → AreListed next es → Entry n e next es
found_entry n e next [] h k = cc
found_entry n e next (P.marker ∷ es) h k = cc
found_entry n e next (P.formatting x ∷ es) h k = elim (cases_Bool (bytes_eq n x.own.name)) [
  | inl y ↦ (
      let is : Some x ≡ Some e = sym (cond-true _ _ _ y) ∙ h in
      let same : x ≡ e = cc in
      subst (λ (z : P.Element). Entry n z next (P.formatting x ∷ es)) same (record {
        formatting = k.0;
        name = same_name n x.own.name y;
        agrees = λ f a. a.0;
      }))
  | inr m ↦ (
      let more = found_entry n e next es (sym (cond-false _ _ _ m) ∙ h) k.3 in
      record { formatting = more.formatting; name = more.name; agrees = λ f a. more.agrees f a.1 })
]

pub any_other : {b : P.Builder} {c : B.Builder} (a : Alike b c) → P.is_flow b.mode ≡ true → (n : List ℕ) → is_cell_or_caption (G.group n) ≡ false → bytes_eq n (codes "html") ≡ false →
    Goes b (R.other_ended b n) (A.any_other_end_tag n c)
any_other {b = b} {c = c} a k n apart last = record {
  alike = close_in a k (bytes_eq n) (bytes_eq n) (R.is_special_in b) (T.is_named n) (T.is_named n) (T.is_special c.flags.counts_search)
      (closes_named n (R.is_special_in b) apart last (special_covers b))
      (same_all (R.is_special_in b) (T.is_special c.flags.counts_search) (special_same a.like) (frames_of b.stack));
  mode = closed_mode (R.is_special_in b) (bytes_eq n) (bytes_eq n) b;
}

module _ {b : P.Builder} {c : B.Builder} (a : Alike b c) (k : P.is_flow b.mode ≡ true) (n : List ℕ) (g : is_formatting_group (G.group n) ≡ true) where
  unlisted_both : (e : P.Element) → Goes b (record b { active = P.unlisted e.number b.active }) (record c { active = F.unlisted (suc e.number) c.active })
  unlisted_both e = record {
    alike = record {
      sound = active_sound b (P.unlisted e.number b.active) a.sound (unlisted_listed e.number b.next b.active (a.sound).entries)
          (numbers_by b.next b.active (P.unlisted e.number b.active) (frames_of b.stack) (λ f. agrees_unlisted f e.number b.active) (a.sound).numbers);
      like = with_active a.like (P.unlisted e.number b.active) (F.unlisted (suc e.number) c.active)
          (unlisted-bare (suc e.number) c.active ∙ ap (F.unlisted (suc e.number)) (a.like).active ∙ unlisted_is e.number b.next b.active (a.sound).entries);
    };
    mode = refl;
  }

  -- it is popped with all that is in it, and is no longer listed
  through_both : (e : P.Element) → Entry n e b.next b.active → P.within (P.has_number e.number) (P.has_name H.is_scope) (P.elements b.stack) ≡ true →
      Goes b (record b { stack = P.popped_through (P.has_number e.number) b.stack.current b.stack.others; active = P.unlisted e.number b.active })
      (record c { path = W.popped_through (W.has_number (suc e.number)) c.path; active = F.unlisted (suc e.number) c.active })
  through_both e entry w =
      let h = a.sound in
      let s : P.Stack = P.popped_through (P.has_number e.number) b.stack.current b.stack.others in
      let t = through_sound b.next b.active (P.has_number e.number) H.is_scope scope_covers
      (λ f y z. ap (λ (own : HtmlTag). is_cell_or_caption (G.group own.name)) (entry.agrees f z y) ∙ formatting_apart (G.group e.own.name) entry.formatting)
      (λ f y z. elim (cases_Bool (P.has_number e.number f.element)) [
        | inl same ↦ absurd (formatting_elsewhere e.own.name entry.formatting (ap (λ (own : HtmlTag). G.group own.name) (sym (entry.agrees f z same)) ∙ ap G.group y))
        | inr other ↦ other
      ])
      b.stack.current b.stack.others h.stack h.stand h.numbers (flow_top b h k) w in
      let popped : Alike (P.with_stack b s) (B.with_path c (W.popped_through (W.has_number (suc e.number)) c.path)) =
      record {
        sound = popped_sound b s h t.1;
        like = with_path a.like s (W.popped_through (W.has_number (suc e.number)) c.path)
            (popped_through-bare (W.has_number (suc e.number)) (W.has_number (suc e.number)) (λ _. refl) c.path
            ∙ ap (W.popped_through (W.has_number (suc e.number))) (a.like).path
            ∙ through_is (P.has_number e.number) (W.has_number (suc e.number)) (λ f. sym (eq_suc f.element.number e.number)) b.stack t.0);
      } in
      record {
        alike = record {
          sound = active_sound (P.with_stack b s) (P.unlisted e.number b.active) popped.sound (unlisted_listed e.number b.next b.active h.entries)
              (numbers_by b.next b.active (P.unlisted e.number b.active) (frames_of s) (λ f. agrees_unlisted f e.number b.active) (popped.sound).numbers);
          like = with_active popped.like (P.unlisted e.number b.active) (F.unlisted (suc e.number) c.active)
              (unlisted-bare (suc e.number) c.active ∙ ap (F.unlisted (suc e.number)) (a.like).active ∙ unlisted_is e.number b.next b.active h.entries);
        };
        mode = refl;
      }

  -- a round that is done with
  pub record Round (r : P.Builder) : Type 0 where
    pub whole : B.Builder
    pub done : A.adoption_round n c ≡ B.Done whole
    pub goes : Goes b r whole

  with_listed : (r : P.Builder) (o : Option P.Element) → P.listed n b.active ≡ o → R.adopted b n o ≡ Some r → Round r
  with_listed r None e h =
      let is : R.other_ended b n ≡ r = cc in
      record {
        whole = A.any_other_end_tag n c;
        done = ap (A.with_formatting n c) (nothing-bare bare_listed (F.listed n c.active) (listed-bare n c.active ∙ ap (F.listed n) (a.like).active ∙ listed_is n b.active ∙ ap (option_map listed_as) e));
        goes = subst (λ (q : P.Builder). Goes b q (A.any_other_end_tag n c)) is (any_other a k n (formatting_apart (G.group n) g) (not_html n (formatting_elsewhere n g)));
      }
  with_listed r (Some x) e h =
      let found = found-bare (F.listed n c.active) (suc x.number) (tag_of x.own) (listed-bare n c.active ∙ ap (F.listed n) (a.like).active ∙ listed_is n b.active ∙ ap (option_map listed_as) e) in
      let own : F.Listed = record { number = suc x.number; tag = found.own } in
      let listed : A.adoption_round n c ≡ A.with_formatting n c (Some own) = ap (A.with_formatting n c) found.is in
      let open_is : W.is_open_number (suc x.number) c.path ≡ P.is_open x.number (P.elements b.stack) =
      is_open_number-bare (suc x.number) c.path ∙ ap (W.is_open_number (suc x.number)) (a.like).path ∙ is_open_number x.number b.stack in
      let scope_is : W.within (W.has_number (suc x.number)) (W.has_tag T.is_scope) (W.elements c.path) ≡ P.within (P.has_number x.number) (P.has_name H.is_scope) (P.elements b.stack) =
      open-bare (W.has_number (suc x.number)) (W.has_tag T.is_scope) (W.has_number (suc x.number)) (W.has_tag T.is_scope) (λ _. refl) (λ _. refl) c.path
      ∙ ap (λ (p : W.Path). W.within (W.has_number (suc x.number)) (W.has_tag T.is_scope) (W.elements p)) (a.like).path
      ∙ has_number_within x.number H.is_scope T.is_scope b.stack (scope_same b.stack.current b.stack.others (a.sound).stack) in
      elim (cases_Bool (P.is_open x.number (P.elements b.stack))) [
        | inr n₀ ↦ (
            let is : record b { active = P.unlisted x.number b.active } ≡ r = some_is (sym (cond-true _ _ _ (ap not n₀)) ∙ h) in
            record {
              whole = record c { active = F.unlisted (suc x.number) c.active };
              done = listed ∙ cond-true _ _ _ (ap not (open_is ∙ n₀));
              goes = subst (λ (q : P.Builder). Goes b q (record c { active = F.unlisted (suc x.number) c.active })) is (unlisted_both x);
            })
        | inl y₀ ↦ elim (cases_Bool (P.within (P.has_number x.number) (P.has_name H.is_scope) (P.elements b.stack))) [
          | inr n₁ ↦ (
              let is : b ≡ r = some_is (sym (cond-false _ _ _ (ap not y₀) ∙ cond-true _ _ _ (ap not n₁)) ∙ h) in
              record {
                whole = c;
                done = listed ∙ cond-false _ _ _ (ap not (open_is ∙ y₀)) ∙ cond-true _ _ _ (ap not (scope_is ∙ n₁));
                goes = subst (λ (q : P.Builder). Goes b q c) is (stays a);
              })
          | inl y₁ ↦ elim (cases_Bool (R.has_furthest_block (R.is_special_in b) x.number (P.elements b.stack))) [
            | inl y₂ ↦ (
                let never : None ≡ Some r = sym (cond-false _ _ _ (ap not y₀) ∙ cond-false _ _ _ (ap not y₁) ∙ cond-true _ _ _ y₂) ∙ h in
                absurd (no_some never))
            | inr n₂ ↦ (
                let is : record b { stack = P.popped_through (P.has_number x.number) b.stack.current b.stack.others; active = P.unlisted x.number b.active } ≡ r =
                some_is (sym (cond-false _ _ _ (ap not y₀) ∙ cond-false _ _ _ (ap not y₁) ∙ cond-false _ _ _ n₂) ∙ h) in
                let block : A.furthest_block (suc x.number) c ≡ None =
                nothing-bare bare_frame (A.furthest_block (suc x.number) c)
                (outermost-bare (T.is_special c.flags.counts_search) (suc x.number) None (W.elements c.path)
                ∙ ap (A.outermost (T.is_special c.flags.counts_search) (suc x.number) None) (elements-bare c.path ∙ ap W.elements (a.like).path ∙ elements_are (frames_of b.stack))
                ∙ no_furthest (R.is_special_in b) (T.is_special c.flags.counts_search) (special_same a.like) x.number (frames_of b.stack) n₂) in
                record {
                  whole = record c { path = W.popped_through (W.has_number (suc x.number)) c.path; active = F.unlisted (suc x.number) c.active };
                  done = listed ∙ cond-false _ _ _ (ap not (open_is ∙ y₀)) ∙ cond-false _ _ _ (ap not (scope_is ∙ y₁)) ∙ ap (A.with_block c own) block;
                  goes = subst (λ (q : P.Builder). Goes b q (record c { path = W.popped_through (W.has_number (suc x.number)) c.path; active = F.unlisted (suc x.number) c.active })) is
                      (through_both x (found_entry n x b.next b.active e (a.sound).entries) y₁);
                })
          ]
        ]
      ]
    where
      some_is : {x y : P.Builder} → Some x ≡ Some y → x ≡ y
      some_is e = cc

      no_some : {y : P.Builder} → None ≡ Some y → ⊥
      no_some e = cc

  pub adoption : (r : P.Builder) → R.adoption b n ≡ Some r → Goes b r (A.adoption_agency n c)
  adoption r h =
      let test : (T.is_named n (B.current_node c).tag && not (F.is_listed (B.current_node c).number c.active))
      ≡ (bytes_eq n (name_of b.stack.current) && not (P.is_listed b.stack.current.element.number b.active)) =
      ap (λ (f : W.Frame). T.is_named n f.tag && not (F.is_listed f.number c.active)) (top-bare c.path)
      ∙ ap (λ v. T.is_named n (W.top (bare_path c.path)).tag && not v) (is_listed-bare (W.top (bare_path c.path)).number c.active)
      ∙ ap₂ (λ (p : W.Path) (es : List B.Entry). T.is_named n (W.top p).tag && not (F.is_listed (W.top p).number es)) (a.like).path (a.like).active
      ∙ ap (λ v. bytes_eq n (name_of b.stack.current) && not v) (is_listed_is b.stack.current.element.number b.active) in
      elim (cases_Bool (bytes_eq n (name_of b.stack.current) && not (P.is_listed b.stack.current.element.number b.active))) [
        | inl y ↦ (
            let is : P.with_stack b (P.popped b.stack.current b.stack.others) ≡ r = some_is (sym (cond-true _ _ _ y) ∙ h) in
            let current : n ≡ name_of b.stack.current = same_name n (name_of b.stack.current) (and_parts _ _ y).0 in
            subst (Goes b r) (sym (cond-true _ _ _ (test ∙ y)))
            (subst (λ (q : P.Builder). Goes b q (B.pop_current_node c)) is
            (popped_current a k (formatting_plain (group_of b.stack.current) (ap (λ m. is_formatting_group (G.group m)) (sym current) ∙ g)))))
        | inr m ↦ (
            let round = with_listed r (P.listed n b.active) refl (sym (cond-false _ _ _ m) ∙ h) in
            subst (Goes b r) (sym (cond-false _ _ _ (test ∙ m) ∙ ap (B.repeated 7 (A.adoption_round n)) round.done)) round.goes)
      ]
    where
      some_is : {x y : P.Builder} → Some x ≡ Some y → x ≡ y
      some_is e = cc
