use Rattle.flow.proofs.Ending.{end-onward, known_more, next_number}
use Rattle.flow.proofs.ends.Paths.find.Goals as goal

pub returns-then-known-clause-value : goal.returns-then-known-clause-value
returns-then-known-clause-value g c = next_number _ c.args.self.now.sound.streams c.requires.found c.requires.inside
    c.next-next.ensures c.if-known.true

pub returns-then-known-clause-found : goal.returns-then-known-clause-found
returns-then-known-clause-found g c = known_more _ _ c.requires.found c.requires.inside
    (next_number _ c.args.self.now.sound.streams c.requires.found c.requires.inside c.next-next.ensures c.if-known.true)

pub write-requires-clause-number : goal.write-requires-clause-number
write-requires-clause-number g c = cc (end-onward c.args.self.now.sound.streams c.args.node c.requires.inside)

pub returns-clause-value : goal.returns-clause-value
returns-clause-value g c = cc (end-onward c.args.self.now.sound.streams c.args.node c.requires.inside)
