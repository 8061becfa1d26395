use Rattle.ultra_colib.proofs.texts.queue_text.Goals as goal

pub returns : goal.returns
returns c = rw c.places_of-places.ensures.value at c.queue_text_with.ensures
