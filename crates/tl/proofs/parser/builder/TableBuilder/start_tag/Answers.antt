use Rattle.tl.proofs.parser.builder.TableBuilder.start_tag.Goals as goal

pub returns-clause-held : goal.returns-clause-held
returns-clause-held g c all = c.in_ok-add_tag.ensures.held g.S.Source.held all c.in_ok-tag.ensures.held
