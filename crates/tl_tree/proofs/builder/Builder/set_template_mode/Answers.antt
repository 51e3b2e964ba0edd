use Rattle.std.proofs.Common.{[], MatchOption, None, Option, Some, ap, arith, length, map, refl, reverse, sym, ◌++◌, ◌∙◌, ◌≡◌, ◌∷◌, List, ℕ}
use Rattle.std.proofs.lemmas.List.{map-append, reverse-append}
use Rattle.std.specs.Option.{option_to_list}
use Rattle.tl_dom_spec.specs.Builder as dom
use Rattle.tl_dom_spec.specs.Reset.{templates_popped}
use Rattle.tl_tree.specs.Inner.Builders.{builder_of, token_of}
use Rattle.tl_tree.specs.Inner.Modes.{mode_of}
use Rattle.tl_tree.specs.declared.mode.Mode.{Mode}
use Rattle.tl_tree.proofs.builder.Builder.set_template_mode.Goals as goal

modes_of : List Mode → List dom.Mode
modes_of modes = reverse (map mode_of modes)

modes-more : (modes : List Mode) (m : Mode) → modes_of (modes ++ m ∷ []) ≡ mode_of m ∷ modes_of modes
unfolding modes_of
modes-more modes m =
    ap reverse (map-append mode_of modes (m ∷ [])) ∙ reverse-append (map mode_of modes) (mode_of m ∷ [])

-- the last mode is popped, if there is one
modes-popped : (modes : List Mode) (last : Option Mode) (n len : ℕ) (P : Mode → Type 0) → len ≡ length modes → MatchOption last ((n ≡ 0) × (len ≡ 0)) P → templates_popped (modes_of (modes ++ option_to_list last)) ≡ modes_of modes
unfolding modes_of
modes-popped [] None n len P is h = refl
modes-popped (m ∷ modes) None n len P is h = absurd (omega (arith, h.1))
modes-popped modes (Some m) n len P is h = ap templates_popped (modes-more modes m)

pub returns-clause-ok : goal.returns-clause-ok
unfolding builder_of modes_of
returns-clause-ok c =
    let b = c.args.self.now in
    let kept = c.pop.new.self.items in
    ap (λ (own : List dom.Mode). record (builder_of b) { templates = own })
    (ap modes_of c.in_ok-push.ensures.items
    ∙ (modes-more kept c.args.mode
    ∙ ap (λ (own : List dom.Mode). mode_of c.args.mode ∷ own)
    (sym (ap (λ all. templates_popped (modes_of all)) c.pop.ensures.items ∙ modes-popped kept c.pop.result _ _ _ (omega (arith, c.pop.new.self.ok.0)) c.pop.ensures.cases))))

pub returns-clause-token : goal.returns-clause-token
unfolding token_of
returns-clause-token c = refl

pub returns-in_err-push-clause-token : goal.returns-in_err-push-clause-token
unfolding token_of
returns-in_err-push-clause-token c = refl
