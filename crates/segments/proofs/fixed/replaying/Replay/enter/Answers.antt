-- The least held section that is ahead is begun; there is one.
use Rattle.segments.proofs.fixed.replaying.Replay.enter.Goals as goal

pub begin-requires-clause-over : goal.begin-requires-clause-over
begin-requires-clause-over g c = c.requires.over

pub begin-requires-clause-going : goal.begin-requires-clause-going
begin-requires-clause-going g c = c.requires.going

pub begin-requires-clause-between : goal.begin-requires-clause-between
begin-requires-clause-between g c = c.requires.between

pub begin-requires-clause-held : goal.begin-requires-clause-held
begin-requires-clause-held g c = c.in-Some.ensures.held

pub begin-requires-clause-ahead : goal.begin-requires-clause-ahead
begin-requires-clause-ahead g c = c.in-Some.ensures.ahead

pub begin-requires-clause-least : goal.begin-requires-clause-least
begin-requires-clause-least g c = c.in-Some.ensures.least

pub returns-in-Some : goal.returns-in-Some
returns-in-Some g c = c.begin.ensures

pub returns-in-None : goal.returns-in-None
returns-in-None g c = absurd (c.requires.more (record { between = c.requires.between; last = c.section_ahead.ensures.none cc }))
