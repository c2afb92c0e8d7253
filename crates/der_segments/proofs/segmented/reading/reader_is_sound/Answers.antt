use Rattle.der_segments.proofs.segmented.reading.reader_is_sound.Goals as goal

pub returns : goal.returns
returns g c = g.met.R.Reader.sound_state c.args._reader.now
