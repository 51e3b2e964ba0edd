use Rattle.std.proofs.Common.{◌≡◌, ℕ, List, Option, Some, None, refl, drop, subst, ap, sym, ◌∙◌}
use Rattle.tl_spec.specs.Lex.Token.{Token, next_token}
use Rattle.std.specs.List.{All}
use Rattle.tl_spec.specs.Tree.Document.{Document, document}
use Rattle.tl_spec.proofs.Tree.Reached.{IsReached-start}
use Rattle.tl_lexer.specs.TokenMeaning.{meant}
use Rattle.tl.specs.View.{HTMLTable, document_of, version_of, IsHeldNode}
use Rattle.tl.specs.Builder.{state_of}
use Rattle.tl.proofs.Following.{reached_next, reached_end}
use Rattle.tl.proofs.Preorder.{read-preorder}
use Rattle.tl.proofs.parser.builder.read.Goals as goal

pub returns-then-text-clause-length : goal.returns-then-text-clause-length
returns-then-text-clause-length g c = (λ _. rw (← c.as_bytes-text.ensures) c.if-text.true, λ _. refl)

pub loop-token-init : goal.loop-token-init
loop-token-init g c = record {
  reached = IsReached-start (g.S.Source.text c.args.source.now) (state_of c.in_ok-table.table) c.in_ok-table.ensures.state;
  held = c.in_ok-table.ensures.held g.S.Source.held;
}

pub loop-token-preserved : goal.loop-token-preserved
loop-token-preserved g c =
    let t = g.S.Source.text c.args.source.now in
    let at = c.loop-token.at in
    let token = c.in-Some.token in
    let after = c.in-Some.after in
    let first : ◌≡◌ {A = Option (Token × List ℕ)} (Some (meant t token after)) (next_token (drop at t)) =
    subst (λ (T : List ℕ). ◌≡◌ {A = Option (Token × List ℕ)} (Some (meant T token after)) (next_token (drop at T))) c.as_bytes-text.ensures c.in-Some.ensures.read in
    record {
      reached = reached_next t at c.in_ok-at.at after token (state_of c.loop-token.table) (state_of c.push_token.new.self) first c.loop-token.invariant.reached
          c.in_ok-at.ensures.rest c.in_ok-at.ensures.within c.in_ok-at.ensures.ok;
      held = c.in_ok-at.ensures.held c.loop-token.invariant.held;
    }

pub note_preorder-requires : goal.note_preorder-requires
note_preorder-requires g c =
    let t = g.S.Source.text c.args.source.now in
    let stop : ◌≡◌ {A = Option (Token × List ℕ)} None (next_token (drop c.loop-token.at t)) =
    subst (λ (T : List ℕ). ◌≡◌ {A = Option (Token × List ℕ)} None (next_token (drop c.loop-token.at T))) c.as_bytes-text.ensures c.in_default.ensures.read in
    read-preorder t c.finish-parser.result.nodes
    (ap (λ (d : Document). d.nodes) (c.finish-parser.ensures.document ∙ reached_end t c.loop-token.at (state_of c.loop-token.table) stop c.loop-token.invariant.reached))

pub returns-clause-document : goal.returns-clause-document
returns-clause-document g c =
    let t = g.S.Source.text c.args.source.now in
    let stop : ◌≡◌ {A = Option (Token × List ℕ)} None (next_token (drop c.loop-token.at t)) =
    subst (λ (T : List ℕ). ◌≡◌ {A = Option (Token × List ℕ)} None (next_token (drop c.loop-token.at T))) c.as_bytes-text.ensures c.in_default.ensures.read in
    ap document_of c.note_preorder.ensures ∙ c.finish-parser.ensures.document ∙ reached_end t c.loop-token.at (state_of c.loop-token.table) stop c.loop-token.invariant.reached

pub returns-clause-version : goal.returns-clause-version
returns-clause-version g c =
    let t = g.S.Source.text c.args.source.now in
    let stop : ◌≡◌ {A = Option (Token × List ℕ)} None (next_token (drop c.loop-token.at t)) =
    subst (λ (T : List ℕ). ◌≡◌ {A = Option (Token × List ℕ)} None (next_token (drop c.loop-token.at T))) c.as_bytes-text.ensures c.in_default.ensures.read in
    ap (λ (p : HTMLTable). p.version) c.note_preorder.ensures ∙ c.finish-parser.ensures.version ∙ ap (λ (d : Document). version_of d.is_html5) (reached_end t c.loop-token.at (state_of c.loop-token.table) stop c.loop-token.invariant.reached)

pub returns-clause-held : goal.returns-clause-held
returns-clause-held g c =
    subst (λ (p : HTMLTable). All (IsHeldNode g.S.Source.held) p.nodes) (sym c.note_preorder.ensures) (c.finish-parser.ensures.held g.S.Source.held c.loop-token.invariant.held)
