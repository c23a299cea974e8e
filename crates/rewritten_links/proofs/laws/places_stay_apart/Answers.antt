use Rattle.rewritten_links.proofs.Stay.{stay}
use Rattle.rewritten_links.proofs.laws.places_stay_apart.Goals as goal

pub returns : goal.returns
returns c = stay c.parts_have_all_words.ensures c.bytes_keep_their_order.ensures c.pieces_have_the_old_bytes.ensures
