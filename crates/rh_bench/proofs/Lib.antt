pub mod LayerSupports
