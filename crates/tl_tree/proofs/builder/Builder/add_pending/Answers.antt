use Rattle.std.proofs.Common.{List, ap, ◌∙◌, ◌≡◌, ℕ}
use Rattle.std.proofs.lemmas.Result.{IfOk-weaker}
use Rattle.std.specs.Global.{Vec}
use Rattle.tl_tree.proofs.Built.{known-kept, path-changed, token-kept}
use Rattle.tl_tree.specs.Inner.Builders.{builder_of, token_of}
use Rattle.tl_tree.specs.Inner.Frames.{path_of}
use Rattle.tl_tree.specs.Inner.Store.{bytes_of}
use Rattle.tl_tree.specs.declared.span.Span.{Span}
use Rattle.tl_tree.proofs.builder.Builder.add_pending.Goals as goal

pub returns-clause-ok : goal.returns-clause-ok
unfolding builder_of
returns-clause-ok c =
    let b = c.args.self.now in
    let q = c.add_bytes-text.new.self in
    let g = c.add_bytes-text.ensures.grows in
    let next = c.add_bytes-text.ensures.next in
    let known = known-kept b q g next in
    let same = ap (λ (v : Vec ℕ). v.items) c.replace-pending.ensures.value in
    ap (λ (bytes : List ℕ). record (builder_of (record b { path = q; known = known })) { pending = bytes }) same
    ∙ path-changed b q known (path_of b.path) b.path.next g next c.add_bytes-text.ensures.path

pub returns-clause-token : goal.returns-clause-token
unfolding token_of
returns-clause-token c =
    let b = c.args.self.now in
    let q = c.add_bytes-text.new.self in
    token-kept b q (known-kept b q c.add_bytes-text.ensures.grows c.add_bytes-text.ensures.next) c.add_bytes-text.ensures.grows

pub returns-clause-stands : goal.returns-clause-stands
unfolding builder_of
returns-clause-stands c =
    let same = ap (λ (v : Vec ℕ). v.items) c.replace-pending.ensures.value in
    let b = c.args.self.now in
    let stands = λ (bytes : List ℕ) (span : Span). bytes_of c.add_bytes-text.new.self.store span ≡ bytes in
    IfOk-weaker c.add_bytes-text.result (stands c.deref.result.now) (stands b.pending.items) (λ span is. is ∙ (c.deref.ensures.value ∙ same)) c.add_bytes-text.ensures.stands

pub invariant_of-self : goal.invariant_of-self
invariant_of-self c =
    record { known = known-kept c.args.self.now c.add_bytes-text.new.self c.add_bytes-text.ensures.grows c.add_bytes-text.ensures.next }
