use Rattle.tl.proofs.vdom.VDomOf.version.Goals as goal

pub returns : goal.returns
returns g c = rw (← c.self.view_is) c.version.ensures
