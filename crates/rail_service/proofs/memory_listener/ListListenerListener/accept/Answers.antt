use Rattle.std.proofs.Common.{[], ◌∷◌, rules}
use Rattle.rail_service.proofs.memory_listener.ListListenerListener.accept.Goals as goal

-- the stream was the first of those to come
pub returns-in-Some-clause-becomes : goal.returns-in-Some-clause-becomes
returns-in-Some-clause-becomes c = (c.in-Some.bytes.items ∷ [], search rules)
