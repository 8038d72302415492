use Rattle.version.proofs.Firsts.{newest_found}
use Rattle.version.proofs.part.Part.newest.Goals as goal

pub returns : goal.returns
returns g c =
    let self = c.args.self.now in
    newest_found (g.Self.Part.versions self) c.args.place (g.met.Self.Part.kept self).ordered c.first_from.result c.first_from.ensures.answer c.of_point.result c.of_point.ensures
