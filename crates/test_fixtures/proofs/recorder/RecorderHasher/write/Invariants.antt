use Rattle.std.proofs.Common.{◌≡◌, ◌+◌, ◌*◌, ◌%◌, ◌^◌, take, fold}
use Rattle.test_fixtures.proofs.recorder.RecorderHasher.write.Given as goal

abbrev pub invariant-loop-octet : goal.invariant-loop-octet
invariant-loop-octet l = l.self.0 ≡ fold (λ n o. ((n * 256) % 2 ^ 128 + o) % 2 ^ 128) l.initial.self.0 (take l.octet-index l.bytes)
