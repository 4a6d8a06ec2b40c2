-- `hub_text::request::read_strings` meets its contract.
-- Assumes nothing.
use Rattle.hub_text.proofs.RequestLaws.{room-nonce, room-ad, room-text, strings}
use Rattle.hub_text.proofs.request.read_strings.Goals as goal

pub read_next-nonce-requires-clause-w_in_bounds : goal.read_next-nonce-requires-clause-w_in_bounds
read_next-nonce-requires-clause-w_in_bounds c =
    let r = c.requires in
    room-nonce c.args.w r.fit r.bytes_room_in_bounds c.read_next-key.ensures

pub read_next-ad-requires-clause-w_in_bounds : goal.read_next-ad-requires-clause-w_in_bounds
read_next-ad-requires-clause-w_in_bounds c =
    let r = c.requires in
    room-ad c.args.w r.fit r.bytes_room_in_bounds c.read_next-key.ensures c.read_next-nonce.ensures

pub read_next-text-requires-clause-w_in_bounds : goal.read_next-text-requires-clause-w_in_bounds
read_next-text-requires-clause-w_in_bounds c =
    let r = c.requires in
    room-text c.args.w r.fit r.bytes_room_in_bounds c.read_next-key.ensures c.read_next-nonce.ensures c.read_next-ad.ensures

pub returns : goal.returns
returns c =
    let r = c.requires in
    strings c.args.w r.fit r.bytes_room_in_bounds c.read_next-key.ensures c.read_next-nonce.ensures c.read_next-ad.ensures c.args.act c.args.set c.read_next-text.ensures
