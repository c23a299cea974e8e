use Rattle.std.proofs.Common.{arith}
use Rattle.link_image.proofs.Lookup.{point_at, point_there}
use Rattle.link_image.proofs.linker.Linker.point_address.Goals as goal

pub unwrap-block-requires : goal.unwrap-block-requires
unwrap-block-requires c = point_there c.args.self.now c.args.point.now c.requires.ready c.requires.point c.get.result c.get.ensures.value

pub inserted_below-requires : goal.inserted_below-requires
inserted_below-requires c = (point_at c.args.self.now c.args.point.now c.requires.ready c.requires.point c.get.result c.unwrap-block.result c.get.ensures.value c.unwrap-block.ensures).sorted

pub overflow_mul-result : goal.overflow_mul-result
overflow_mul-result c = let at = point_at c.args.self.now c.args.point.now c.requires.ready c.requires.point c.get.result c.unwrap-block.result c.get.ensures.value c.unwrap-block.ensures in omega (arith, at.high)

pub overflow_mul-result-2 : goal.overflow_mul-result-2
overflow_mul-result-2 c = let at = point_at c.args.self.now c.args.point.now c.requires.ready c.requires.point c.get.result c.unwrap-block.result c.get.ensures.value c.unwrap-block.ensures in omega (arith, at.high)

pub overflow_add-result : goal.overflow_add-result
overflow_add-result c = let at = point_at c.args.self.now c.args.point.now c.requires.ready c.requires.point c.get.result c.unwrap-block.result c.get.ensures.value c.unwrap-block.ensures in omega (arith, at.high)

pub overflow_add-result-2 : goal.overflow_add-result-2
overflow_add-result-2 c = let at = point_at c.args.self.now c.args.point.now c.requires.ready c.requires.point c.get.result c.unwrap-block.result c.get.ensures.value c.unwrap-block.ensures in omega (arith, at.high)

pub overflow_add-result-3 : goal.overflow_add-result-3
overflow_add-result-3 c = let at = point_at c.args.self.now c.args.point.now c.requires.ready c.requires.point c.get.result c.unwrap-block.result c.get.ensures.value c.unwrap-block.ensures in omega (arith, at.high)

pub returns : goal.returns
returns c = let at = point_at c.args.self.now c.args.point.now c.requires.ready c.requires.point c.get.result c.unwrap-block.result c.get.ensures.value c.unwrap-block.ensures in omega (arith, at.address)
