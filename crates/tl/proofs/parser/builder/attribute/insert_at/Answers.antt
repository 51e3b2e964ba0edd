use Rattle.std.proofs.Common.{ap}
use Rattle.tl_bytes.specs.Held.{Kept}
use Rattle.tl_lexer.specs.Span.{pair_at}
use Rattle.tl_attributes.proofs.Puts.{after-put, after-read}
use Rattle.tl.proofs.parser.builder.attribute.insert_at.Goals as goal

pub returns-clause-pair : goal.returns-clause-pair
returns-clause-pair g c =
    after-put c.args.attributes.now c.insert.new.self c.in_ok-key.key c.in_ok-value.value (pair_at (g.S.Source.text c.args.source.now) c.args.place) c.insert.result c.insert.ensures.ok
    (ap (λ (b : Kept). b.list) c.in_ok-key.ensures.ok) c.in_ok-value.ensures.list

pub returns-clause-read : goal.returns-clause-read
returns-clause-read g c =
    after-read c.args.attributes.now c.insert.new.self c.in_ok-key.key c.in_ok-value.value (pair_at (g.S.Source.text c.args.source.now) c.args.place) g.S.Source.held c.insert.result c.insert.ensures.ok
    (ap (λ (b : Kept). b.held) c.in_ok-key.ensures.ok) c.in_ok-value.ensures.held c.requires.read
