use Rattle.host_serve.proofs.stream.serve_stream.Goals as goal

pub returns-clause-tidy : goal.returns-clause-tidy
returns-clause-tidy g c = c.spend_permitted.ensures.tidy c.requires.tidy
