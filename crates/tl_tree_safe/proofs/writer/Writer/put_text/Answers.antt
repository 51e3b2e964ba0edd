use Rattle.std.proofs.Common.{Bool, List, Option, [], ap, append-nil, sym, ◌++◌, ◌∙◌, ℕ}
use Rattle.std.specs.Option.{option_map, unwrap_or}
use Rattle.tl_tree_safe.specs.Inner.Walk.{Spot, behind_text, spot_of, text_written}
use Rattle.tl_tree_safe.proofs.writer.Writer.put_text.Goals as goal

pub returns-in_default-clause-text : goal.returns-in_default-clause-text
returns-in_default-clause-text c =
    let o : List ℕ = c.args.out.now.items in
    let s : Spot = spot_of c.args.self.now in
    sym (append-nil o) ∙ ap (λ (t : Option (List ℕ)). o ++ unwrap_or (option_map (text_written s) t) []) c.in_default.ensures

pub returns-in_default-clause-spot : goal.returns-in_default-clause-spot
returns-in_default-clause-spot c =
    let s : Spot = spot_of c.args.self.now in
    ap (λ (t : Option (List ℕ)). unwrap_or (option_map (behind_text s) t) s) c.in_default.ensures

pub returns-clause-text : goal.returns-clause-text
returns-clause-text c =
    let o : List ℕ = c.args.out.now.items in
    let s : Spot = spot_of c.args.self.now in
    c.in_ok-self.ensures.text ∙ ap (λ (t : Option (List ℕ)). o ++ unwrap_or (option_map (text_written s) t) []) c.in-Some.ensures

pub returns-clause-spot : goal.returns-clause-spot
returns-clause-spot c =
    let s : Spot = spot_of c.args.self.now in
    ap (λ (f : Bool). record s { fresh = f }) c.in_ok-self.ensures.fresh
    ∙ ap (λ (t : Option (List ℕ)). unwrap_or (option_map (behind_text s) t) s) c.in-Some.ensures
